-- Equations added one after the other: the table stays ready and keeps its columns, and takes two lists one after the other.
use Rattle.std.specs.Prelude.{◌≡◌, ℕ}
use Rattle.std.proofs.Math.Path.{refl}
use Rattle.std.proofs.Common.{◌∙◌}
use mathlib.Core.List.{List, [], ◌∷◌, ◌++◌}
use Rattle.divisor.specs.declared.table.Row.{Row}
use Rattle.divisor.specs.declared.table.Table.{Table}
use Rattle.divisor.specs.Table.Model.{with_row, TableReady}
use Rattle.divisor.specs.Table.Meaning.{added, AllReady}
use Rattle.divisor.specs.Table.Kept.{with_row_ready, with_row_columns}

module _ (p : ℕ) where
  pub added_ready : (t : Table) (es : List Row) → TableReady p t → AllReady p es → TableReady p (added p t es)
  unfolding added
  added_ready t [] ready ok = ready
  added_ready t (e ∷ es) ready ok = added_ready (with_row p t e) es (with_row_ready p t e ok.0 ready) ok.1

  pub added_columns : (t : Table) (es : List Row) → AllReady p es → (added p t es).columns ≡ t.columns
  unfolding added
  added_columns t [] ok = refl
  added_columns t (e ∷ es) ok = added_columns (with_row p t e) es ok.1 ∙ with_row_columns p t e ok.0

  -- equations in two lists
  pub added_append : (t : Table) (es fs : List Row) → added p t (es ++ fs) ≡ added p (added p t es) fs
  unfolding added
  added_append t [] fs = refl
  added_append t (e ∷ es) fs = added_append (with_row p t e) es fs

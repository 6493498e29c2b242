-- From the case at the start of the bytes to a case file: nothing may stand after it.
use Prim.Native.Nat.{ℕ, zero, suc, ◌+◌, ◌≤◌, ◌<◌}
use Rattle.std.specs.Prelude.{◌≡◌, Bool, Result, Err, length}
use Rattle.std.proofs.Math.Path.{refl, ap}
use Rattle.std.proofs.Math.Bool.{true, false}
use mathlib.Core.List.{List, [], ◌∷◌}
use native.Mathlib.Omega.{arith}
use borrow.Author.Tests.{lt-ltb, le-ltb, ltb-false}
use Rattle.std.proofs.Math.Dec.{ltb}
use Rattle.field.specs.Numbers.{AFTER_END}
use Rattle.field.specs.declared.faults.Fault.{Fault}
use Rattle.field.specs.Refusal.{StandsFor}
use Rattle.field.specs.Faults.Laws.{stands_err}
use Rattle.case_file.specs.declared.Counts.{Counts as ReadCounts}
use Rattle.case_file.specs.Format.{Format, body, content, today}
use Rattle.case_file.specs.Case.{Case, no_records, added}
use Rattle.case_file.specs.Reading.{Reading, whole, refused, alone, reading, read_one_in, read_in, read_one, read}
use Rattle.case_file.specs.Handed.{Counts, fault, next, Gives, counted, refused_counts}
use Rattle.case_file.specs.Reader.Steps.{refused_no_case, by_record}

-- a refusal's number is not 0, so that number 0 says that a case was read
abbrev pub Numbered : Reading → Type 0
Numbered (whole c at) = Unit {0}
Numbered (refused e at) = e ≡ 0 → ⊥

-- what holds of a reading, and of a refusal of what stands after, holds of the file
pub alone_each : (P : Reading → Type 0) (n : ℕ) (o : Reading) → ((at : ℕ) → P (refused AFTER_END at)) → P o → P (alone n o)
unfolding alone
alone_each P n (refused e i) after p = p
alone_each P n (whole c at) after p = go (ltb at n)
  where
    go : (b : Bool) → P (elim b [ true ↦ refused AFTER_END at | false ↦ whole c at ])
    go true = after at
    go false = p

module _ (n : ℕ) where
  pub stays_whole : (o : Reading) → n ≤ next o → alone n o ≡ o
  unfolding alone
  stays_whole (whole c at) h = rw (le-ltb at n h, alone)
  stays_whole (refused e i) h = refl

  stays_refused : (o : Reading) → ((fault o).number ≡ 0 → ⊥) → alone n o ≡ o
  unfolding alone
  stays_refused (whole c at) z = absurd (z refl)
  stays_refused (refused e i) z = refl

  becomes_refused : (o : Reading) → Numbered o → next o < n → (fault o).number ≡ 0 → alone n o ≡ refused AFTER_END (next o)
  unfolding alone
  becomes_refused (whole c at) m h z = rw (lt-ltb at n h, alone)
  becomes_refused (refused e i) m h z = absurd (m z)

  -- a file that is accepted has nothing after its case
  pub alone_whole : (o : Reading) (c : Case) (m : ℕ) → alone n o ≡ whole c m → (o ≡ whole c m) × (n ≤ m)
  unfolding alone
  alone_whole (refused i j) c m e = absurd (refused_no_case i j c m e)
  alone_whole (whole d at) c m e = go (ltb at n) refl e
    where
      go : (b : Bool) → ltb at n ≡ b → elim b [ true ↦ refused AFTER_END at | false ↦ whole d at ] ≡ whole c m → (whole d at ≡ whole c m) × (n ≤ m)
      go true t q = absurd (refused_no_case AFTER_END at c m q)
      go false t q = let l : at ≡ m = cc in (q, omega (arith, ltb-false at n t))

module _ (f : Format) where
  numbered : (s at before : ℕ) (c : Case) (bs : List ℕ) → Numbered (reading f s at before c bs)
  unfolding reading
  numbered zero at before c [] = λ z. omega arith
  numbered (suc s) at before c [] = λ z. omega arith
  numbered (suc s) at before c (b ∷ bs) = numbered s (at + 1) before c bs
  numbered zero at before c (k ∷ bs) =
      by_record f at before c k bs Numbered (λ e h z. z) (λ h q. tt)
      (λ h q. numbered (body f k) (at + 1) k (added k (content f k bs ∷ []) c) bs)

  pub read_one_numbered : (bs : List ℕ) → Numbered (read_one_in f bs)
  unfolding read_one_in
  read_one_numbered bs = numbered 0 0 0 no_records bs

  pub read_numbered : (bs : List ℕ) → Numbered (read_in f bs)
  unfolding read_in
  read_numbered bs = alone_each Numbered (length bs) (read_one_in f bs) (λ at z. omega arith) (read_one_numbered bs)

-- a refusal with its number is told of what is refused so
pub refused_told : {o : Reading} {e i : ℕ} {x : Fault} {f s k p : List ℕ} → o ≡ refused e i → ¬ (e ≡ 0)
    → Gives (refused e i) (refused_counts x) f s k p → (0 < x.number) × Gives o (refused_counts x) f s k p
refused_told q z g = (omega (arith, z, ap (λ (r : Counts). r.fault.number) g.record_is), rw q g)

module _ (bs : List ℕ) {r : Counts} {f s k p : List ℕ} (g : Gives (read_one bs) r f s k p) where
  pub nothing_after : length bs ≤ r.next → Gives (read bs) r f s k p
  unfolding read_in
  nothing_after h = rw (stays_whole (length bs) (read_one bs) (rw g.record_is at h), read_in) g

  pub refused_before : (r.fault.number ≡ 0 → ⊥) → Gives (read bs) r f s k p
  unfolding read_in
  refused_before z = rw (stays_refused (length bs) (read_one bs) (rw g.record_is at z), read_in) g

  pub bytes_after : r.next < length bs → r.fault.number ≡ 0 → read bs ≡ refused AFTER_END r.next
  unfolding read_in
  bytes_after h z =
      rw g.record_is
      (becomes_refused (length bs) (read_one bs) (read_one_numbered today bs) (rw g.record_is at h) (rw g.record_is at z))

-- a refusal of the case at the start is one of the file
pub refused_alike : (bs : List ℕ) {x : Fault} {f s k p : List ℕ} {r : Result ReadCounts Fault} → r ≡ Err x
    → (0 < x.number) × Gives (read_one bs) (refused_counts x) f s k p → StandsFor refused_counts counted (λ t. Gives (read bs) t f s k p) r
refused_alike bs {x} {f} {s} {k} {p} e told =
    stands_err refused_counts counted (λ t. Gives (read bs) t f s k p) e told.0 (refused_before bs told.1 (λ z. omega (arith, told.0)))

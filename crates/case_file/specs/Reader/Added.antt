-- A case with further records of one kind: what becomes of each of its lists.
use Rattle.std.specs.Prelude.{ℕ, ◌≡◌, Bool, true, false, List, [], ◌++◌, eqb}
use Rattle.std.proofs.Math.Path.{refl, fun_ext}
use Rattle.std.proofs.Common.{sym, ◌∙◌, append_assoc, append-nil, eqb-true, eq-eqb, ne_eqb}
use Rattle.std.proofs.lemmas.Bool.{eqb-false}
use Rattle.case_file.specs.Case.{Case, added}

module _ (k : ℕ) (rs : List (List ℕ)) (c : Case) where
  pub added_other : (j : ℕ) → (j ≡ k → ⊥) → added k rs c j ≡ c j
  unfolding added
  added_other j h = rw (ne_eqb j k h, added)

  pub added_own : added k rs c k ≡ c k ++ rs
  unfolding added
  added_own = rw (eq-eqb k k refl, added)

  -- a fact of each list, from that of the list of kind k and those of the others
  pub added_each : (P : ℕ → List (List ℕ) → Type 0) → P k (c k ++ rs) → ((j : ℕ) → (j ≡ k → ⊥) → P j (c j)) → (j : ℕ) → P j (added k rs c j)
  added_each P own others j = go (eqb j k) refl
    where
      go : (t : Bool) → eqb j k ≡ t → P j (added k rs c j)
      go true t = rw (eqb-true j k t, added_own) own
      go false t = rw (added_other j (eqb-false j k t)) (others j (eqb-false j k t))

  -- a case is known by its lists
  pub added_is : (d : Case) → ((j : ℕ) → (j ≡ k → ⊥) → c j ≡ d j) → c k ++ rs ≡ d k → added k rs c ≡ d
  added_is d others own = fun_ext (added_each (λ (j : ℕ) (l : List (List ℕ)). l ≡ d j) own others)

pub added_none : (k : ℕ) (c : Case) → added k [] c ≡ c
added_none k c = added_is k [] c c (λ j ne. refl) (append-nil (c k))

pub added_twice : (k : ℕ) (rs ss : List (List ℕ)) (c : Case) → added k ss (added k rs c) ≡ added k (rs ++ ss) c
added_twice k rs ss c =
    added_is k ss (added k rs c) (added k (rs ++ ss) c)
    (λ j ne. added_other k rs c j ne ∙ sym (added_other k (rs ++ ss) c j ne))
    (rw (added_own, added_own, append_assoc))

-- The shorter leading part of two lists: what each way out of the code answers, and that the promises settle the list, the place and the terms.
use Rattle.std.specs.Prelude.{◌≡◌, refl, List, [], ℕ, ◌≤◌, ◌<◌, length, take}
use Rattle.std.proofs.Common.{sym, ap, ap₂, ◌∙◌, subst, inl, inr, arith, length-take-le}
use Rattle.std.specs.Borrow.{Bor}
use Rattle.field.specs.Refusal.{Refuses, Passes}
use Rattle.field.specs.Faults.Laws.{not_passes_and_refuses}
use Rattle.field.specs.declared.faults.Fault.{Fault}
use Rattle.poly.specs.declared.Picked.{Picked}
use Rattle.poly.specs.declared.Picked.TheVariants.{First, Second}
use Rattle.poly.specs.LeadingPart.{of_list, IsLeading, LeadingTerms, LeadingPart}
use Rattle.poly.specs.LeadingPart as one
use Rattle.poly.specs.ShorterPart.{of_two_lists, Shorter, refused, of_first, of_second, Head, head_of, ShorterHead, picked}
use Rattle.poly.specs.ShorterPart.{ShorterPart, part_of_first, part_of_second}
use Rattle.poly.specs.Search.{Searched}
use Rattle.poly.specs.List.Model.{Lower}
use Rattle.poly.specs.List.Leading.{list_has_terms, leading_found, leading_within, leading_taken, leading_part_unique}

abbrev pick : ℕ → ℕ → Head
pick list terms = record { list = list; terms = terms }

-- a part that is told by its number of terms
picked_length : {A B : List ℕ} {list : ℕ} (head : List ℕ) (n : ℕ) → length head ≡ n → Shorter A B list head
    → ShorterHead A B (pick list n)
picked_length {A} {B} {list} head n e s = subst (λ (k : ℕ). ShorterHead A B (pick list k)) e (picked _ _ s)

-- each list passes by itself: whether it does is not a matter of its numbers
module _ (A B : List ℕ) (h : Passes (of_two_lists A B)) where
  first_passes : Passes (of_list A)
  first_passes = (h.0, (h.1.0, tt))

  second_passes : Passes (of_list B)
  second_passes = h.1.1

-- the ways out of the choice: refused, or by the two lengths
pub shorter_refused : (A B : List ℕ) (f : Fault) → Refuses (of_two_lists A B) f → ShorterHead A B (pick 1 0)
shorter_refused A B f h = picked 1 [] (refused f h)

module _ (A B : List ℕ) (pass : Passes (of_two_lists A B)) where
  pub first_has_terms : 0 < length A
  first_has_terms = list_has_terms A (first_passes A B pass)

  pub second_has_terms : 0 < length B
  second_has_terms = list_has_terms B (second_passes A B pass)

  module _ (n m : ℕ) (s : Searched (Lower A) (length A) n) (u : Searched (Lower B) (length B) m) where
    part_of_A : IsLeading A (take n A)
    part_of_A = leading_found A (first_passes A B pass) n s

    part_of_B : IsLeading B (take m B)
    part_of_B = leading_found B (second_passes A B pass) m u

    pub shorter_of_second : m < n → ShorterHead A B (pick 2 m)
    shorter_of_second l =
        let a = length-take-le n A s.within in
        let b = length-take-le m B u.within in
        picked_length (take m B) m b (of_second (take m B) (take n A) pass part_of_B part_of_A (omega arith))

    pub shorter_of_first : n ≤ m → ShorterHead A B (pick 1 n)
    shorter_of_first l =
        let a = length-take-le n A s.within in
        let b = length-take-le m B u.within in
        picked_length (take n A) n a (of_first (take n A) (take m B) pass part_of_A part_of_B (omega arith))

-- the part of the list that is named, as a part of it
pub picked_of_second : {A B : List ℕ} {r : Head} → ShorterHead A B r → r.list ≡ 2 → (r.terms ≤ length B) × Shorter A B 2 (take r.terms B)
picked_of_second (picked _ _ (refused f h)) e = absurd (omega arith)
picked_of_second (picked _ _ (of_first head other h p q l)) e = absurd (omega arith)
picked_of_second {A} {B} (picked _ _ (of_second head other h p q l)) e =
    (leading_within B head p, subst (Shorter A B 2) (sym (leading_taken B head p)) (of_second head other h p q l))

pub picked_of_first : {A B : List ℕ} {r : Head} → ShorterHead A B r → ¬ (r.list ≡ 2) → (r.terms ≤ length A) × Shorter A B 1 (take r.terms A)
picked_of_first {A} {B} (picked _ _ (refused f h)) n = (omega arith, refused f h)
picked_of_first {A} {B} (picked _ _ (of_first head other h p q l)) n =
    (leading_within A head p, subst (Shorter A B 1) (sym (leading_taken A head p)) (of_first head other h p q l))
picked_of_first (picked _ _ (of_second head other h p q l)) n = absurd (n refl)

-- the list and the terms are settled
shorter_settled : {A B : List ℕ} {i j : ℕ} {head other : List ℕ} → Shorter A B i head → Shorter A B j other → (i ≡ j) × (head ≡ other)
shorter_settled {A} {B} (refused f h) (refused g k) = (refl, refl)
shorter_settled {A} {B} (refused f h) (of_first u w k p q l) = absurd (not_passes_and_refuses (of_two_lists A B) f k h)
shorter_settled {A} {B} (refused f h) (of_second u w k p q l) = absurd (not_passes_and_refuses (of_two_lists A B) f k h)
shorter_settled {A} {B} (of_first s t h a b m) (refused g k) = absurd (not_passes_and_refuses (of_two_lists A B) g h k)
shorter_settled {A} {B} (of_first s t h a b m) (of_first u w k p q l) = (refl, leading_part_unique A s u a p)
shorter_settled {A} {B} (of_first s t h a b m) (of_second u w k p q l) =
    absurd (omega (arith, ap length (leading_part_unique A s w a q), ap length (leading_part_unique B t u b p)))
shorter_settled {A} {B} (of_second s t h a b m) (refused g k) = absurd (not_passes_and_refuses (of_two_lists A B) g h k)
shorter_settled {A} {B} (of_second s t h a b m) (of_first u w k p q l) =
    absurd (omega (arith, ap length (leading_part_unique B s w a q), ap length (leading_part_unique A t u b p)))
shorter_settled {A} {B} (of_second s t h a b m) (of_second u w k p q l) = (refl, leading_part_unique B s u a p)

-- so the promises settle what comes back: the record, and the place and the terms of the part
pub shorter_head_determined : {A B : List ℕ} {r q : Head} → ShorterHead A B r → ShorterHead A B q → r ≡ q
shorter_head_determined (picked i head s) (picked j other u) =
    let e = shorter_settled s u in
    ap₂ pick e.0 (ap length e.1)

-- a part is known by what is told of it
pub head_known : (r q : Picked) → head_of r ≡ head_of q → r ≡ q
head_known (First n) (First m) e = ap (λ (h : Head). First h.terms) e
head_known (First n) (Second m) e = absurd (omega (arith, ap (λ (h : Head). h.list) e))
head_known (Second n) (First m) e = absurd (omega (arith, ap (λ (h : Head). h.list) e))
head_known (Second n) (Second m) e = ap (λ (h : Head). Second h.terms) e

pub picked_determined : {A B : List ℕ} (r q : Picked) → ShorterHead A B (head_of r) → ShorterHead A B (head_of q) → r ≡ q
picked_determined r q h k = head_known r q (shorter_head_determined h k)

pub shorter_determined : {first second part other : Bor (List ℕ)} → ShorterPart first second part → ShorterPart first second other
    → (part.ref_ptr ≡ other.ref_ptr) × (part.now ≡ other.now)
shorter_determined (part_of_first s e) (part_of_first u d) = (e ∙ sym d, (shorter_settled s u).1)
shorter_determined (part_of_first s e) (part_of_second u d) = absurd (omega (arith, (shorter_settled s u).0))
shorter_determined (part_of_second s e) (part_of_first u d) = absurd (omega (arith, (shorter_settled s u).0))
shorter_determined (part_of_second s e) (part_of_second u d) = (e ∙ sym d, (shorter_settled s u).1)

-- where one list is lent twice, its leading part comes back, whichever of the two it is said to be of
same_refused : (A : List ℕ) (f : Fault) → Refuses (of_two_lists A A) f → Refuses (of_list A) f
same_refused A f (inl h) = inl h
same_refused A f (inr (n, inl h)) = inr (n, inl h)
same_refused A f (inr (n, inr (m, inl h))) = absurd (n h.0 h.2)
same_refused A f (inr (n, inr (m, inr (k, inl h)))) = absurd (m h.0 h.2)
same_refused A f (inr (n, inr (m, inr (k, inr h)))) = absurd h.1

same_terms : {A head : List ℕ} {i : ℕ} → Shorter A A i head → LeadingTerms A head
same_terms {A} (refused f h) = one.refused f (same_refused A f h)
same_terms {A} (of_first head other h p q l) = one.answered head (first_passes A A h) p
same_terms {A} (of_second head other h p q l) = one.answered head (first_passes A A h) p

pub shorter_of_same : {list part : Bor (List ℕ)} → ShorterPart list list part → LeadingPart list part
shorter_of_same (part_of_first s e) = record { leading = same_terms s; place = e }
shorter_of_same (part_of_second s e) = record { leading = same_terms s; place = e }

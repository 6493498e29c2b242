-- The terms before the first with a lower power of x are the leading part, and a list has one leading part.
use Rattle.std.specs.Prelude.{◌≡◌, refl, List, [], ◌∷◌, map, ℕ, zero, suc, ◌+◌, ◌≤◌, ◌<◌, length, get_or, take, drop}
use Rattle.std.proofs.Common.{sym, ap, ap₂, ◌∙◌, subst, inl, arith, take-append-drop, length-drop, length-append, length-take-le, get_or-take, get_or-drop, get_or-append-add}
use Rattle.std.proofs.Math.Decide.{dec_lt}
use Rattle.std.proofs.lemmas.List.{length-map}
use Rattle.std.proofs.Math.ListN.{get_or-append, get_or-map}
use Rattle.std.proofs.Math.Seq.{take-append_seam}
use Rattle.std.specs.Borrow.{Bor}
use Rattle.field.specs.Refusal.{Passes}
use Rattle.field.specs.Faults.Laws.{never_placed, not_passes_and_refuses}
use Rattle.poly.specs.Keys.{keys}
use Rattle.poly.specs.Terms.{key_of}
use Rattle.poly.specs.Lists.{WrongTerm, wrong_key}
use Rattle.poly.specs.LeadingPart.{of_list, x_of, IsLeading, LeadingTerms, refused, answered, LeadingPart}
use Rattle.poly.specs.Search.{Searched}
use Rattle.poly.specs.List.Model.{Lower}
use Rattle.poly.specs.List.Laws.{none_wrong, FallFrom, keys_fall}

-- keys that fall: a later one is not above an earlier one
fall_below : (b : ℕ) (ks : List ℕ) → FallFrom b ks → (j : ℕ) → j < length ks → get_or ks j 0 < b
fall_below b [] h j l = absurd (omega arith)
fall_below b (k ∷ ks) h zero l = h.0
fall_below b (k ∷ ks) h (suc j) l = let m : k < b = h.0 in let n = fall_below k ks h.1 j (omega arith) in omega arith

fall_order : (b : ℕ) (ks : List ℕ) → FallFrom b ks → (i j : ℕ) → i ≤ j → j < length ks → get_or ks j 0 ≤ get_or ks i 0
fall_order b [] h i j m l = absurd (omega arith)
fall_order b (k ∷ ks) h zero zero m l = omega arith
fall_order b (k ∷ ks) h zero (suc j) m l = let n = fall_below k ks h.1 j (omega arith) in omega arith
fall_order b (k ∷ ks) h (suc i) zero m l = absurd (omega arith)
fall_order b (k ∷ ks) h (suc i) (suc j) m l = fall_order k ks h.1 i j (omega arith) (omega arith)

module _ (ts : List ℕ) (pass : Passes (of_list ts)) where
  list_falls : FallFrom keys (map key_of ts)
  list_falls = keys_fall (map key_of ts) (λ i w. none_wrong (WrongTerm ts) pass.1.0 i (wrong_key w))

  pub list_has_terms : 0 < length ts
  list_has_terms = let n : ¬ (length ts ≡ 0) = λ e. never_placed pass.0 (inl e) in omega arith

  powers_fall : (i j : ℕ) → i ≤ j → j < length ts → x_of (get_or ts j 0) ≤ x_of (get_or ts i 0)
  powers_fall i j m l =
      let n = fall_order keys (map key_of ts) list_falls i j m (omega (arith, length-map ts key_of)) in
      omega (arith, get_or-map key_of ts i 0, get_or-map key_of ts j 0)

  -- the terms before the first lower one are the leading part
  pub leading_found : (n : ℕ) → Searched (Lower ts) (length ts) n → IsLeading ts (take n ts)
  leading_found n s =
      record {
        rest = drop n ts;
        parts = sym (take-append-drop n ts);
        highest =
            λ i l.
            let b : i < n = omega (arith, length-take-le n ts s.within) in
            let not_lower = s.before i b in
            let not_higher = powers_fall 0 i (omega arith) (let w = s.within in omega arith) in
            ap x_of (get_or-take n ts i 0 b) ∙ omega arith;
        lower =
            λ i l.
            let b : n + i < length ts = omega (arith, length-drop n ts) in
            let low = s.here (omega arith) in
            let later = powers_fall n (n + i) (omega arith) b in
            subst (λ (t : ℕ). x_of t < x_of (get_or ts 0 0)) (sym (get_or-drop n ts i 0)) (omega arith);
      }

-- the service, where the list passes: the leading part
pub leading_answered : (ts : List ℕ) → Passes (of_list ts) → (n : ℕ) → Searched (Lower ts) (length ts) n → LeadingTerms ts (take n ts)
leading_answered ts h n s = answered (take n ts) h (leading_found ts h n s)

-- a head is as long as the other: where it ended before, the other's next term would be lower and not
not_shorter : (ts head other : List ℕ) → IsLeading ts head → IsLeading ts other → length other ≤ length head
not_shorter ts head other h o = go (dec_lt (length head) (length other))
  where
    go : Dec (length head < length other) → length other ≤ length head
    go (no q) = omega arith
    go (yes l) =
        let n = length head in
        let whole : length ts ≡ length head + length h.rest = ap length h.parts ∙ length-append head h.rest in
        let part : length ts ≡ length other + length o.rest = ap length o.parts ∙ length-append other o.rest in
        let z : n + 0 ≡ n = omega arith in
        let mine : get_or ts n 0 ≡ get_or h.rest 0 0 =
        ap₂ (λ (u : List ℕ) (k : ℕ). get_or u k 0) h.parts (sym z) ∙ get_or-append-add head h.rest 0 0 in
        let yours : get_or ts n 0 ≡ get_or other n 0 = ap (λ (u : List ℕ). get_or u n 0) o.parts ∙ get_or-append other o.rest 0 n l in
        let low = h.lower 0 (omega arith) in
        let high = o.highest n l in
        absurd (omega (arith, ap x_of mine, ap x_of yours))

-- a leading part, as a part of its list
pub leading_within : (ts head : List ℕ) → IsLeading ts head → length head ≤ length ts
leading_within ts head h = omega (arith, ap length h.parts ∙ length-append head h.rest)

pub leading_taken : (ts head : List ℕ) → IsLeading ts head → take (length head) ts ≡ head
leading_taken ts head h = ap (take (length head)) h.parts ∙ take-append_seam head h.rest

pub leading_part_unique : (ts head other : List ℕ) → IsLeading ts head → IsLeading ts other → head ≡ other
leading_part_unique ts head other h o =
    let a = not_shorter ts head other h o in
    let b = not_shorter ts other head o h in
    let e : length head ≡ length other = omega arith in
    sym (leading_taken ts head h) ∙ ap (λ (n : ℕ). take n ts) e ∙ leading_taken ts other o

-- the terms that come back are settled
pub leading_terms_determined : (ts head other : List ℕ) → LeadingTerms ts head → LeadingTerms ts other → head ≡ other
leading_terms_determined ts head other (refused f h) (refused g k) = refl
leading_terms_determined ts head other (refused f h) (answered u k o) = absurd (not_passes_and_refuses (of_list ts) f k h)
leading_terms_determined ts head other (answered u h o) (refused g k) = absurd (not_passes_and_refuses (of_list ts) g h k)
leading_terms_determined ts head other (answered u h o) (answered w k q) = leading_part_unique ts head other o q

-- the promise of the leading part settles it: two results that meet it are the same part, at the same place and with the same terms
pub leading_determined : {terms part other : Bor (List ℕ)} → LeadingPart terms part → LeadingPart terms other
    → (part.ref_ptr ≡ other.ref_ptr) × (part.now ≡ other.now)
leading_determined h k = (h.place ∙ sym k.place, leading_terms_determined _ _ _ h.leading k.leading)

-- The case of a modulus and four lists: its list of each kind, when it can be stored, and the way back from a case that can be stored.
use Rattle.std.specs.Prelude.{ℕ, ◌*◌, ◌/◌, ◌%◌, ◌^◌, ◌≤◌, ◌≡◌, Bool}
use Rattle.std.proofs.Math.Path.{refl, sym, ap, fun_ext}
use Rattle.std.proofs.Common.{◌∙◌, inl, inr, zero-mul, suc-mul, arith, length-append, drop_of_length-le}
use Rattle.std.proofs.Math.Bool.{true, false, true≢false}
use mathlib.Core.List.{List, [], ◌∷◌, append-nil}
use Rattle.std.proofs.Math.Decide.{ℕ_discrete}
use Rattle.std.proofs.Math.ListN.{length, get_or, length-map}
use Rattle.case_file.specs.Format.{modulus_kind, first_kind, second_kind, skeleton_kind, point_kind, end_kind}
use Rattle.case_file.specs.Format.{first_term, second_term, key, point, base, known, kind_of, widths, count, limit, today}
use Rattle.case_file.specs.Case.{Case, added, flat}
use Rattle.case_file.specs.Written.{Below, EachFits, Storable}
use Rattle.case_file.specs.WriteCall.{WriteCall, singles, triples, case_of, call_case, Over, Unwritable}
use Rattle.case_file.specs.RoundTrips.{OfWidth}
use Rattle.case_file.specs.Record.Room.{most}
use Rattle.case_file.specs.Record.Packing.{fits_length}
use Rattle.case_file.specs.Record.Today.{by_kind, range}
use Rattle.case_file.specs.Reader.Added.{added_other}
use Rattle.case_file.specs.Reader.RoundTrip.{none_unknown}

-- each record has n numbers
abbrev pub EachHas : ℕ → List (List ℕ) → Type 0
EachHas n [] = Unit {0}
EachHas n (ns ∷ rs) = (length ns ≡ n) × EachHas n rs

pub singles_have : (ns : List ℕ) → EachHas 1 (singles ns)
singles_have [] = tt
singles_have (n ∷ ns) = (refl, singles_have ns)

pub triples_have : (ns : List ℕ) → EachHas 3 (triples ns)
unfolding triples
triples_have [] = tt
triples_have (y ∷ []) = tt
triples_have (y ∷ z ∷ []) = tt
triples_have (y ∷ z ∷ w ∷ ns) = (refl, triples_have ns)

pub length_triples : (ns : List ℕ) → length (triples ns) ≡ length ns / 3
unfolding triples
length_triples [] = refl
length_triples (y ∷ []) = refl
length_triples (y ∷ z ∷ []) = refl
length_triples (y ∷ z ∷ w ∷ ns) = rw (length_triples ns) (omega arith)

pub flat_singles : (ns : List ℕ) → flat (singles ns) ≡ ns
unfolding flat
flat_singles [] = refl
flat_singles (n ∷ ns) = ap (λ (l : List ℕ). n ∷ l) (flat_singles ns)

pub flat_triples : (ns : List ℕ) → length ns % 3 ≡ 0 → flat (triples ns) ≡ ns
unfolding flat triples
flat_triples [] h = refl
flat_triples (y ∷ []) h = absurd (omega arith)
flat_triples (y ∷ z ∷ []) h = absurd (omega arith)
flat_triples (y ∷ z ∷ w ∷ ns) h = ap (λ (l : List ℕ). y ∷ z ∷ w ∷ l) (flat_triples ns (omega arith))

singles_flat : (rs : List (List ℕ)) → EachHas 1 rs → singles (flat rs) ≡ rs
unfolding flat
singles_flat [] h = refl
singles_flat ([] ∷ rs) h = absurd (omega (arith, h.0))
singles_flat ((n ∷ []) ∷ rs) h = ap (λ (l : List (List ℕ)). (n ∷ []) ∷ l) (singles_flat rs h.1)
singles_flat ((n ∷ m ∷ ns) ∷ rs) h = absurd (omega (arith, h.0))

triples_flat : (rs : List (List ℕ)) → EachHas 3 rs → triples (flat rs) ≡ rs
unfolding flat triples
triples_flat [] h = refl
triples_flat ([] ∷ rs) h = absurd (omega (arith, h.0))
triples_flat ((y ∷ []) ∷ rs) h = absurd (omega (arith, h.0))
triples_flat ((y ∷ z ∷ []) ∷ rs) h = absurd (omega (arith, h.0))
triples_flat ((y ∷ z ∷ w ∷ []) ∷ rs) h = ap (λ (l : List (List ℕ)). (y ∷ z ∷ w ∷ []) ∷ l) (triples_flat rs h.1)
triples_flat ((y ∷ z ∷ w ∷ u ∷ ns) ∷ rs) h = absurd (omega (arith, h.0))

length_flat : (n : ℕ) (rs : List (List ℕ)) → EachHas n rs → length (flat rs) ≡ length rs * n
unfolding flat
length_flat n [] h = rw zero-mul
length_flat n (ns ∷ rs) h = rw (length-append, length_flat n rs h.1, suc-mul) (omega (arith, h.0))

-- one record is its numbers
one_flat : (n : ℕ) (rs : List (List ℕ)) → length rs ≡ 1 → EachHas n rs → (flat rs ∷ [] ≡ rs) × (length (flat rs) ≡ n)
unfolding flat
one_flat n [] l h = absurd (omega arith)
one_flat n (ns ∷ []) l h = rw append-nil (refl, h.0)
one_flat n (ns ∷ ms ∷ rs) l h = absurd (omega arith)

singles_fit : (w : ℕ) (ns : List ℕ) → Below (base ^ w) ns → EachFits (w ∷ []) (singles ns)
singles_fit w [] b = tt
singles_fit w (n ∷ ns) b = ((b.0, tt), singles_fit w ns b.1)

triples_fit : (w : ℕ) (ns : List ℕ) → Below (base ^ w) ns → EachFits (w ∷ w ∷ w ∷ []) (triples ns)
unfolding triples
triples_fit w [] b = tt
triples_fit w (x ∷ []) b = tt
triples_fit w (x ∷ y ∷ []) b = tt
triples_fit w (x ∷ y ∷ z ∷ ns) b = ((b.0, (b.1.0, (b.1.1.0, tt))), triples_fit w ns b.1.1.1)

fits_have : (ws : List ℕ) (rs : List (List ℕ)) → EachFits ws rs → EachHas (length ws) rs
fits_have ws [] b = tt
fits_have ws (ns ∷ rs) b = (fits_length ws ns b.0, fits_have ws rs b.1)

module _ (modulus : ℕ) (first second skeleton points : List ℕ) where
  no_others : (j : ℕ) → known today j ≡ false → case_of modulus first second skeleton points j ≡ []
  unfolding known
  no_others j h =
      let other : (k : ℕ) → known today k ≡ true → j ≡ k → ⊥ = λ k t e. true≢false (sym t ∙ ap (known today) (sym e) ∙ h) in
      rw (
        added_other modulus_kind _ _ j (other modulus_kind refl),
        added_other first_kind _ _ j (other first_kind refl),
        added_other second_kind _ _ j (other second_kind refl),
        added_other skeleton_kind _ _ j (other skeleton_kind refl),
        added_other point_kind _ _ j (other point_kind refl),
        added_other end_kind _ _ j (other end_kind refl),
      )

  -- a fact of each list, from those of the lists of the known kinds
  pub case_each : (P : ℕ → List (List ℕ) → Type 0) → P modulus_kind ((modulus ∷ []) ∷ []) → P first_kind (singles first) → P second_kind (singles second)
      → P skeleton_kind (singles skeleton) → P point_kind (triples points) → P end_kind ([] ∷ []) → ((j : ℕ) → known today j ≡ false → P j [])
      → (j : ℕ) → P j (case_of modulus first second skeleton points j)
  unfolding added
  case_each P m f s k p e others j = go (known today j) refl
    where
      go : (b : Bool) → known today j ≡ b → P j (case_of modulus first second skeleton points j)
      go true t = by_kind (λ (j : ℕ). P j (case_of modulus first second skeleton points j)) j (range j t).0 (range j t).1 m f s k p e
      go false t = rw (no_others j t) (others j t)

-- no list of these lengths is over its limit, and the numbers of points are a multiple of three
pub record Writable (first second skeleton points : ℕ) : Type 0 where
  pub first_room : first ≤ most first_term
  pub second_room : second ≤ most second_term
  pub skeleton_room : skeleton ≤ most key
  pub point_room : points ≤ most point
  pub threes : points % 3 ≡ 0

module _ (first second skeleton points : ℕ) where
  pub writable : ¬ Unwritable first second skeleton points → Writable first second skeleton points
  unfolding kind_of
  writable n =
      record {
        first_room = let h : ¬ Over first_kind first = λ o. n (inl o) in omega arith;
        second_room = let h : ¬ Over second_kind second = λ o. n (inr (inl o)) in omega arith;
        skeleton_room = let h : ¬ Over skeleton_kind skeleton = λ o. n (inr (inr (inl o))) in omega arith;
        point_room = let h : ¬ Over point_kind points = λ o. n (inr (inr (inr (inl o)))) in omega arith;
        threes = elim (ℕ_discrete (points % 3) 0) [ yes e ↦ e | no m ↦ absurd (n (inr (inr (inr (inr m))))) ];
      }

  pub not_unwritable : Writable first second skeleton points → ¬ Unwritable first second skeleton points
  unfolding kind_of
  not_unwritable w (inl o) = omega (arith, w.first_room)
  not_unwritable w (inr (inl o)) = omega (arith, w.second_room)
  not_unwritable w (inr (inr (inl o))) = omega (arith, w.skeleton_room)
  not_unwritable w (inr (inr (inr (inl o)))) = omega (arith, w.point_room)
  not_unwritable w (inr (inr (inr (inr o)))) = o w.threes

-- the lists of a call can be written
abbrev pub CanWrite : WriteCall → Type 0
CanWrite c = Writable (length c.first_list) (length c.second_list) (length c.skeleton) (length c.points)

module _ (c : WriteCall) (w : CanWrite c) where
  pub case_within : (k : ℕ) → length (call_case c k) ≤ limit today k
  unfolding kind_of
  case_within =
      case_each c.modulus c.first_list c.second_list c.skeleton c.points (λ (k : ℕ) (rs : List (List ℕ)). length rs ≤ limit today k)
      (omega arith) (rw length-map (omega arith)) (rw length-map (omega arith)) (rw length-map (omega arith)) (rw length_triples (omega arith))
      (omega arith) (λ j h. omega arith)

  -- its case can be stored, where the numbers are of their widths
  pub case_storable : OfWidth c → Storable today (call_case c)
  unfolding kind_of added
  case_storable o =
      record {
        within = case_within;
        bodies =
            case_each c.modulus c.first_list c.second_list c.skeleton c.points
            (λ (k : ℕ) (rs : List (List ℕ)). EachFits (widths today k) rs)
            ((o.modulus, tt), tt) (singles_fit 4 c.first_list o.first) (singles_fit 4 c.second_list o.second)
            (singles_fit 2 c.skeleton o.skeleton) (triples_fit 2 c.points o.points) (tt, tt) (λ j h. tt);
        one_first = refl;
        one_last = refl;
      }

-- the way back: a case that can be stored is that of its modulus and its lists
module _ (c : Case) (s : Storable today c) where
  have : (k : ℕ) → EachHas (count today k) (c k)
  have k = fits_have (widths today k) (c k) (s.bodies k)

  pub lists_writable : Writable (length (flat (c first_kind))) (length (flat (c second_kind))) (length (flat (c skeleton_kind))) (length (flat (c point_kind)))
  unfolding kind_of
  lists_writable =
      record {
        first_room = omega (arith, s.within first_kind, length_flat 1 (c first_kind) (have first_kind));
        second_room = omega (arith, s.within second_kind, length_flat 1 (c second_kind) (have second_kind));
        skeleton_room = omega (arith, s.within skeleton_kind, length_flat 1 (c skeleton_kind) (have skeleton_kind));
        point_room = omega (arith, s.within point_kind, length_flat 3 (c point_kind) (have point_kind));
        threes = omega (arith, length_flat 3 (c point_kind) (have point_kind));
      }

  pub case_of_lists : case_of (get_or (flat (c modulus_kind)) 0 0) (flat (c first_kind)) (flat (c second_kind)) (flat (c skeleton_kind)) (flat (c point_kind)) ≡ c
  unfolding kind_of
  case_of_lists =
      let m = one_flat 1 (c modulus_kind) s.one_first (have modulus_kind) in
      let e = one_flat 0 (c end_kind) s.one_last (have end_kind) in
      fun_ext (case_each (get_or (flat (c modulus_kind)) 0 0) (flat (c first_kind)) (flat (c second_kind)) (flat (c skeleton_kind)) (flat (c point_kind))
      (λ (k : ℕ) (rs : List (List ℕ)). rs ≡ c k)
      (ap (λ (l : List ℕ). l ∷ []) (one_number (flat (c modulus_kind)) m.1) ∙ m.0)
      (singles_flat (c first_kind) (have first_kind)) (singles_flat (c second_kind) (have second_kind)) (singles_flat (c skeleton_kind) (have skeleton_kind))
      (triples_flat (c point_kind) (have point_kind))
      (ap (λ (l : List ℕ). l ∷ []) (sym (drop_of_length-le (flat (c end_kind)) {i = 0} (omega (arith, e.1)))) ∙ e.0)
      (λ j h. sym (none_unknown today c s j h)))
    where
      one_number : (l : List ℕ) → length l ≡ 1 → get_or l 0 0 ∷ [] ≡ l
      one_number [] h = absurd (omega arith)
      one_number (n ∷ []) h = refl
      one_number (n ∷ m ∷ l) h = absurd (omega arith)

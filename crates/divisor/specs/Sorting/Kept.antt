-- The points that are kept: as many as the sizes say, the rule's, and what the equations ask for.
use Rattle.std.specs.Prelude.{◌≡◌, refl, List, [], ◌∷◌, ℕ, suc, ◌+◌, ◌-◌, ◌*◌, ◌≤◌, ◌<◌, length, get_or, take}
use Rattle.std.proofs.Common.{sym, ◌∙◌, ap, subst, inl, inr, arith, length-take-le, ext_get_or, get_or-take}
use Rattle.field.specs.Moduli.{Listed}
use Rattle.field.specs.Prime.{Prime}
use Rattle.field.specs.Refusal.{Passes}
use Rattle.poly.specs.Room.{work_room, cleared}
use Rattle.poly.specs.Rooms.Laws.{zeroed_same}
use Rattle.divisor.specs.Rule.{Kept}
use Rattle.divisor.specs.Candidate.{most_points, Call, table, prime, Numbers, A, B, lent_points}
use Rattle.divisor.specs.Table.Model.{Columns}
use Rattle.divisor.specs.Points.Parts.{part_at}
use Rattle.divisor.specs.Sorting.Model.{sizes_of, least, alike, places_before, HasPlaces, kept_of}
use Rattle.divisor.specs.Sorting.Places.{places_first, places_count, place_below}
use Rattle.divisor.specs.Equations.Model.{SystemReady, CanSolve}
use Rattle.divisor.specs.Points.Model.{Looks, kept_before}
use Rattle.divisor.specs.Checks.Passed.{point_count, looks_of, right_lists, keys_most, right_points, few_points, work_fits}
use Rattle.divisor.specs.Checks.Passed.{look_ready, looked}
use Rattle.divisor.specs.Sorting.Laws.{alike_most, alike_two, Least, AtLeast, least_is, kept_count}
use Rattle.divisor.specs.Points.Looking.{look_eight}
use Rattle.divisor.specs.Points.Seen.{sizes_seen, kept_seen}

first_kept : {X : Type 0} (l : List X) → 0 < length l → (k : X) × ((ks : List X) × (l ≡ k ∷ ks))
first_kept [] h = absurd (omega arith)
first_kept (k ∷ ks) h = (k, (ks, refl))

-- what the routine has found where some point is good: the images looked at, the least size, and how many points have it
pub record SomeGood (c : Call) (after sizes : List ℕ) (m count : ℕ) : Type 0 where
  pub pass : Passes (table c)
  pub look : Looks (point_count c) c.modulus c.first_list c.second_list c.points c.work after sizes
  pub is_least : m ≡ least (take (point_count c) sizes)
  pub some : ¬ (m ≡ 0)
  pub is_count : count ≡ alike m (take (point_count c) sizes)

-- the points that are kept where the least size is m: those of the rule, as sizes and work room have them
pub record KeptPoints (c : Call) (listed : Listed c.modulus) (after sizes : List ℕ) (m count : ℕ) : Type 0 where
  pub first : Kept (Numbers c listed)
  pub others : List (Kept (Numbers c listed))
  pub kept_is : kept_of (prime c listed) (suc (m - 1)) (lent_points c listed) (looks_of c) ≡ first ∷ others
  pub in_room : kept_before (prime c listed) m c.points sizes after (point_count c) ≡ first ∷ others
  pub at_least : AtLeast (suc (m - 1)) (sizes_of (looks_of c))
  pub counted : count ≡ alike (suc (m - 1)) (sizes_of (looks_of c))
  pub count_is : count ≡ suc (length others)

module _ (c : Call) (pass : Passes (table c)) (after sizes : List ℕ)
    (look : Looks (point_count c) c.modulus c.first_list c.second_list c.points c.work after sizes) where
  pub within : point_count c ≤ length sizes
  within = let e = look.sized.long in let f = few_points c pass in omega arith

  pub room_after : work_room ≤ length after
  room_after = let e = look.same_length in let w = work_fits c pass in omega arith

  pub same_room : cleared after ≡ cleared c.work
  same_room = zeroed_same work_room after c.work look.beyond

  pub sizes_are : take (point_count c) sizes ≡ sizes_of (looks_of c)
  sizes_are = sizes_seen (few_points c pass) look

module _ {c : Call} {after sizes : List ℕ} {m count : ℕ} (good : SomeGood c after sizes m count) where
  abbrev n : ℕ
  n = point_count c

  abbrev pass : Passes (table c)
  pass = good.pass

  abbrev listed : Listed c.modulus
  listed = (right_lists c pass).is_listed

  abbrev P : Prime c.modulus
  P = prime c listed

  facts : Least 0 (take n sizes) m
  facts = subst (Least 0 (take n sizes)) (sym good.is_least) (least_is 0 (take n sizes))

  some_kept : 0 < alike m (take (point_count c) sizes)
  some_kept = elim facts.reached [ inl e ↦ absurd (good.some e) | inr l ↦ l ]

  sized : length (take n sizes) ≡ n
  sized = length-take-le n sizes (within c pass after sizes good.look)

  pub count_small : count ≤ most_points
  count_small = let l = alike_most m (take n sizes) in let e = sized in let f = few_points c pass in let i = good.is_count in omega arith

  pub counts_fit : (bad : ℕ) → bad ≡ alike 0 (take (point_count c) sizes) → bad + count ≤ point_count c
  counts_fit bad is_bad =
      let l = alike_two 0 m (λ e. good.some (sym e)) (take n sizes) in let e = sized in let i = good.is_count in omega arith

  pub columns_fit : Columns (length c.skeleton + count)
  columns_fit =
      record { some = let k = some_kept in let i = good.is_count in omega arith; most = let k = count_small in let s = keys_most c pass in omega arith }

  long : n ≤ length sizes
  long = within c pass after sizes good.look

  pub counted_places : length (places_before m sizes (point_count c)) ≡ count
  counted_places = places_count m sizes n long ∙ sym good.is_count

  -- the places among all sizes, from an array with those among the first
  pub placed : {places : List ℕ} → HasPlaces m (take n sizes) (length (take n sizes)) places
      → take count places ≡ places_before m sizes (point_count c)
  placed {places} h =
      let same = ap (places_before m (take n sizes)) sized ∙ places_first m sizes n n (omega arith) in
      let fits = length-take-le count places (omega (arith, h.long, count_small)) in
      ext_get_or 0 (take count places) (places_before m sizes n) (fits ∙ sym counted_places)
      (λ a l. get_or-take count places a 0 (omega (arith, fits)) ∙ h.done a (omega (arith, fits, counted_places, ap length same))
      ∙ ap (λ (ps : List ℕ). get_or ps a 0) same)

  -- the kept points' places
  module _ (places : List ℕ) (at : places ≡ places_before m sizes (point_count c)) where
    pub long_places : length places ≡ count
    long_places = ap length at ∙ counted_places

    place_fits : (a : ℕ) → a < count → get_or places a 0 < n
    place_fits a l = omega (arith, ap (λ (ps : List ℕ). get_or ps a 0) at, place_below m sizes n a (omega (arith, counted_places)))

    pub ready_system : SystemReady c.modulus c.skeleton c.points places after (8 * length places)
    ready_system = record {
      listed = listed;
      eights = omega arith;
      few = omega arith;
      most = omega (arith, long_places, columns_fit.most);
      coordinates = λ a l. omega (arith, place_fits a (omega (arith, long_places)), (right_points c pass).threes);
      room = λ a l. omega (arith, place_fits a (omega (arith, long_places)), few_points c pass, room_after c pass after sizes good.look);
      below = λ a j l b.
          let i = get_or places a 0 in
          let fits = place_fits a (omega (arith, long_places)) in
          let same = ap (λ (f : List ℕ). get_or f j 0) (good.look.images i fits) in
          omega (arith, part_at 8 i after j b, same, (look_eight (look_ready c pass) i).below j);
    }

    pub can_solve : CanSolve c.modulus c.skeleton c.points places after (8 * length places) (length c.skeleton + length places)
    can_solve = record { system = ready_system; some = omega (arith, long_places, some_kept, good.is_count); columns_are = omega arith }

  abbrev d : ℕ
  d = m - 1

  next : suc d ≡ m
  next = let s = good.some in omega arith

  -- the kept points of the rule
  abbrev kept : List (Kept (Numbers c listed))
  kept = kept_of P (suc d) (lent_points c listed) (looks_of c)

  kept_are : kept_before P m c.points sizes after n ≡ kept
  kept_are =
      kept_seen (few_points c pass) good.look P m (right_points c pass).threes
      ∙ ap (λ (s : ℕ). kept_of P s (lent_points c listed) (looks_of c)) (sym next)

  counted : count ≡ alike (suc d) (sizes_of (looks_of c))
  counted =
      good.is_count ∙ ap (alike m) (sizes_are c pass after sizes good.look) ∙ ap (λ (s : ℕ). alike s (sizes_of (looks_of c))) (sym next)

  kept_counted : length kept ≡ count
  kept_counted = kept_count P (A c listed) (B c listed) (suc d) (lent_points c listed) (looks_of c) (looked c pass listed) ∙ sym counted

  some_first : (k : Kept (Numbers c listed)) × ((ks : List (Kept (Numbers c listed))) × (kept ≡ k ∷ ks))
  some_first = first_kept kept (let e = kept_counted in let l = some_kept in let i = good.is_count in omega arith)

  at_least : AtLeast (suc d) (sizes_of (looks_of c))
  at_least =
      subst (λ (s : ℕ). AtLeast s (sizes_of (looks_of c))) (sym next) (subst (AtLeast m) (sizes_are c pass after sizes good.look) facts.below)

  pub kept_points : KeptPoints c (right_lists c good.pass).is_listed after sizes m count
  kept_points = record {
    first = some_first.0;
    others = some_first.1.0;
    kept_is = some_first.1.1;
    in_room = kept_are ∙ some_first.1.1;
    at_least = at_least;
    counted = counted;
    count_is = sym kept_counted ∙ ap length some_first.1.1;
  }

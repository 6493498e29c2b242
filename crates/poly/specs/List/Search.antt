-- How a search goes on, and what it leaves as a line of a table: the first wrong place, or that there is none.
use Rattle.std.specs.Prelude.{◌≡◌, ℕ, ◌+◌, ◌≤◌, ◌<◌}
use Rattle.std.proofs.Math.Decide.{dec_lt}
use Rattle.std.proofs.Common.{arith, below_none, below_more}
use Rattle.field.specs.Refusal.{first}
use Rattle.poly.specs.Search.{Searched}
use Rattle.poly.specs.List.Searching.{Searching}

module _ {Wrong : ℕ → Type 0} {n : ℕ} where
  pub search_begins : Searching Wrong n 0
  search_begins = record { within = omega arith; before = below_none _ }

  pub search_goes_on : {i : ℕ} → Searching Wrong n i → i < n → ¬ Wrong i → Searching Wrong n (i + 1)
  search_goes_on {i} s l r = record { within = omega arith; before = below_more _ i s.before r }

  pub search_stops : {i : ℕ} → Searching Wrong n i → Wrong i → Searched Wrong n i
  search_stops s w = record { within = s.within; before = s.before; here = λ l. w }

  pub search_ends : {i : ℕ} → Searching Wrong n i → n ≤ i → Searched Wrong n i
  search_ends s e = record { within = s.within; before = s.before; here = λ l. absurd (omega arith) }

-- where nothing is wrong from n on
module _ (Wrong : ℕ → Type 0) (n : ℕ) (beyond : (i : ℕ) → n ≤ i → ¬ Wrong i) (place : ℕ) (s : Searched Wrong n place) where
  pub searched_first : place < n → first Wrong place
  searched_first l = (s.here l, s.before)

  pub searched_none : n ≤ place → (i : ℕ) → ¬ first Wrong i
  searched_none l i w = elim (dec_lt i n) [ yes b ↦ s.before i (omega arith) w.0 | no b ↦ beyond i (omega arith) w.0 ]

-- a search gives one place
pub searched_determined : {Wrong : ℕ → Type 0} {n a b : ℕ} → Searched Wrong n a → Searched Wrong n b → a ≡ b
searched_determined {Wrong} {n} {a} {b} s t =
    let l = s.within in
    let m = t.within in
    elim (dec_lt a b) [
      | yes h ↦ absurd (t.before a h (s.here (omega arith)))
      | no h ↦ elim (dec_lt b a) [ yes k ↦ absurd (s.before b k (t.here (omega arith))) | no k ↦ omega arith ]
    ]

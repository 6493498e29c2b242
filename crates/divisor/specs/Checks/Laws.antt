-- The search of the first wrong key: how it begins, goes on and ends.
use Rattle.std.specs.Prelude.{◌≡◌, List, ℕ, ◌+◌, ◌≤◌, ◌<◌, length, get_or}
use Rattle.std.proofs.Common.{ap, arith}
use Rattle.poly.specs.Keys.{keys}
use Rattle.poly.specs.Lists.{WrongKey, above, not_below}
use Rattle.poly.specs.Search.{Searched}
use Rattle.poly.specs.List.Searching.{Searching}
use Rattle.poly.specs.List.Search.{search_goes_on, search_stops}

-- the key before place i: above every key at the start
pub data Before (ks : List ℕ) : ℕ → ℕ → Type 0 where
  start : Before ks 0 keys
  after : (j : ℕ) → Before ks (j + 1) (get_or ks j 0)

-- what the search of the first wrong key keeps
pub record KeysSo (ks : List ℕ) (before i : ℕ) : Type 0 where
  pub searching : Searching (WrongKey ks) (length ks) i
  pub before_is : Before ks i before
  pub in_range : before ≤ keys

module _ (ks : List ℕ) where
  wrong_at : (i before : ℕ) → Before ks i before → i < length ks → before ≤ get_or ks i 0 → WrongKey ks i
  wrong_at i before start l h = above l h
  wrong_at i before (after j) l h = not_below j (omega arith) l h

  right_at : (i before : ℕ) → Before ks i before → before ≤ keys → get_or ks i 0 < before → ¬ WrongKey ks i
  right_at i before b r h (above l m) = omega arith
  right_at i before start r h (not_below j e l m) = omega arith
  right_at i before (after k) r h (not_below j e l m) =
      let q : k ≡ j = omega arith in let s : get_or ks k 0 ≡ get_or ks j 0 = ap (λ (n : ℕ). get_or ks n 0) q in omega arith

  pub keys_stop : (before i : ℕ) → KeysSo ks before i → i < length ks → before ≤ get_or ks i 0 → Searched (WrongKey ks) (length ks) i
  keys_stop before i h l m = search_stops h.searching (wrong_at i before h.before_is l m)

  pub keys_next : (before i : ℕ) → KeysSo ks before i → i < length ks → get_or ks i 0 < before → KeysSo ks (get_or ks i 0) (i + 1)
  keys_next before i h l m = record {
    searching = search_goes_on h.searching l (right_at i before h.before_is h.in_range m);
    before_is = after i;
    in_range = let r = h.in_range in omega arith;
  }

  pub keys_beyond : (i : ℕ) → length ks ≤ i → ¬ WrongKey ks i
  keys_beyond i l (above b m) = omega arith
  keys_beyond i l (not_below j e b m) = omega arith

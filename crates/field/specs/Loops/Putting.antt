-- Numbers that are put into a list from a place on, one after another: how a loop that puts them begins, goes on and ends.
use Rattle.std.specs.Prelude.{◌≡◌, refl, List, [], ◌∷◌, ◌++◌, ℕ, suc, ◌+◌, ◌≤◌, ◌<◌, length, get_or, take, drop, set}
use Rattle.std.proofs.Common.{sym, ap, ◌∙◌, append-nil, add-zero, add-one, arith, length-append, drop_of_length-le, drop-cons, take_at}
use Rattle.std.proofs.lemmas.List.Edits.{sets, sets-eq}
use Rattle.std.proofs.Math.Seq.{length-sets}
use Rattle.field.specs.Lent.{written}

-- the numbers vs stand from the place n on; r is the place after them
pub record Puts (vs : List ℕ) (n r : ℕ) (before after : List ℕ) : Type 0 where
  pub stored : after ≡ sets before n vs
  pub counted : r ≡ n + length vs

sets_append : (l : List ℕ) (i : ℕ) (vs ws : List ℕ) → sets l i (vs ++ ws) ≡ sets (sets l i vs) (i + length vs) ws
sets_append l i [] ws = ap (λ (k : ℕ). sets l k ws) (sym (add-zero i))
sets_append l i (v ∷ vs) ws =
    let e : suc i + length vs ≡ i + suc (length vs) = omega arith in
    sets_append (set l i v) (suc i) vs ws ∙ ap (λ (k : ℕ). sets (sets (set l i v) (suc i) vs) k ws) e

-- of all numbers, which go to the place n and after it, those of `left` are still to be put, at the place k
pub record Putting (all : List ℕ) (n k : ℕ) (before after left : List ℕ) : Type 0 where
  pub same : sets before n all ≡ sets after k left
  pub counted : n + length all ≡ k + length left
  pub as_long : length after ≡ length before

module _ {all : List ℕ} {n : ℕ} {before : List ℕ} where
  pub putting_start : Putting all n n before before all
  putting_start = record { same = refl; counted = refl; as_long = refl }

  module _ {k : ℕ} {now left : List ℕ} (p : Putting all n k before now left) where
    -- a part is put
    pub putting_next : {vs later : List ℕ} → left ≡ vs ++ later → {r : ℕ} {after : List ℕ} → Puts vs k r now after → Putting all n r before after later
    putting_next {vs} {later} e {r} {after} q =
        record {
          same = p.same ∙ ap (sets now k) e ∙ sets_append now k vs later ∙ rw (q.stored, q.counted);
          counted = omega (arith, p.counted, q.counted, ap length e, length-append vs later);
          as_long = ap length q.stored ∙ length-sets now k vs ∙ p.as_long;
        }

    -- one number is put
    pub putting_one : {v : ℕ} {later : List ℕ} → left ≡ v ∷ later → Putting all n (k + 1) before (set now k v) later
    putting_one {v} e = putting_next {vs = v ∷ []} e (record { stored = refl; counted = refl })

    -- there is room for the next part where there is room for all
    pub putting_room : (vs later : List ℕ) → left ≡ vs ++ later → n + length all ≤ length before → k + length vs ≤ length now
    putting_room vs later e h = omega (arith, p.counted, p.as_long, ap length e, length-append vs later)

    pub putting_end : left ≡ [] → Puts all n k before now
    putting_end e = record { stored = sym (p.same ∙ ap (sets now k) e); counted = omega (arith, p.counted, ap length e) }

-- two parts one after the other
module _ {vs : List ℕ} {n k : ℕ} {before now : List ℕ} (p : Puts vs n k before now) where
  pub puts_append : {ws : List ℕ} {r : ℕ} {after : List ℕ} → Puts ws k r now after → Puts (vs ++ ws) n r before after
  puts_append {ws} q = putting_end (putting_next (putting_next putting_start refl p) (sym (append-nil ws)) q) refl

  -- there is room for m more
  pub puts_room : (m : ℕ) → n + (length vs + m) ≤ length before → k + m ≤ length now
  puts_room m h = omega (arith, p.counted, ap length p.stored, length-sets before n vs)

-- a number and what is put behind it
pub puts_behind : {v n k : ℕ} {before now : List ℕ} → Puts (v ∷ []) n k before now → {vs : List ℕ} {r : ℕ} {after : List ℕ} → Puts vs k r now after
    → Puts (v ∷ vs) n r before after
puts_behind p q = puts_append p q

-- numbers that are put from the first place on: how many they are, that they are written first and the rest is left, and where they stand
module _ {all before after : List ℕ} {r : ℕ} (p : Puts all 0 r before after) where
  pub puts_count : r ≡ length all
  puts_count = omega (arith, p.counted)

  module _ (h : length all ≤ length before) where
    pub puts_written : after ≡ written all before
    puts_written =
        let z : 0 + length all ≡ length all = omega arith in
        p.stored ∙ sets-eq all before 0 (rw z h) ∙ ap (λ (k : ℕ). all ++ drop k before) z

    pub puts_first : take r after ≡ all
    puts_first = ap (take r) puts_written ∙ take_at all (drop (length all) before) r (sym puts_count)

-- a loop that puts one member of a list a turn
module _ {all : List ℕ} {n k : ℕ} {before now : List ℕ} {i : ℕ} (p : Putting all n k before now (drop i all)) where
  pub putting_member : i < length all → Putting all n (k + 1) before (set now k (get_or all i 0)) (drop (i + 1) all)
  putting_member h = putting_one p (drop-cons all i 0 h ∙ ap (λ (j : ℕ). get_or all i 0 ∷ drop j all) (sym (add-one i)))

  pub putting_all : length all ≤ i → Puts all n k before now
  putting_all h = putting_end p (drop_of_length-le all h)

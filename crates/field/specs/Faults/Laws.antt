-- Laws of faults and of tables of refusals: a fault is known by its numbers; a table gives one fault at most, and does not both pass and refuse; a table
-- may be tested part by part.
use Rattle.std.specs.Prelude.{◌≡◌, refl, Result, Ok, Err, Bool, true, ◌&&◌, List, [], ◌∷◌, ◌++◌, ℕ, ◌<◌, T, ltb, drop}
use Rattle.std.proofs.Common.{sym, ◌∙◌, ap, subst, inl, inr, arith, ltb→lt}
use Rattle.std.specs.Result.{IsErrAnd}
use Rattle.std.proofs.lemmas.Result.{err_from_is_err_and}
use Rattle.std.proofs.Math.Decide.{dec_lt}
use Rattle.std.proofs.Math.Facts.{and_yes}
use Rattle.field.specs.declared.faults.Fault.{Fault}
use Rattle.field.specs.Numbers.{list_at_fault}
use Rattle.field.specs.Refusal.{Line, placed, whole, first, fault, none, after_fault, fault_in, Refuses, Passes, Tested, refused, passed}
use Rattle.field.specs.Refusal.{RefutesAnotherList, Checked, StandsFor}

-- a fault, and what stands behind it, are known by their numbers
pub after_fault_known : (X : Fault → List ℕ → Type 0) (f g : Fault) (rest more : List ℕ) → after_fault f rest ≡ after_fault g more → X f rest → X g more
after_fault_known X f g rest more e x = subst (λ (l : List ℕ). X (fault_in l) (drop 3 l)) e x

-- each line has one place
abbrev pub OnePlaceEach : List Line → Type 0
OnePlaceEach [] = Unit {0}
OnePlaceEach (l ∷ lines) = ((a b : ℕ) → l.given a → l.given b → a ≡ b) × OnePlaceEach lines

pub placed_one_place : (k : ℕ) (X : Type 0) (a b : ℕ) → placed k X a → placed k X b → a ≡ b
placed_one_place k X a b h j = h.1 ∙ sym j.1

pub whole_one_place : (X : Type 0) (a b : ℕ) → whole X a → whole X b → a ≡ b
whole_one_place X = placed_one_place 0 X

pub first_one_place : (Wrong : ℕ → Type 0) (a b : ℕ) → first Wrong a → first Wrong b → a ≡ b
first_one_place Wrong a b h k =
    elim (dec_lt a b) [
      | yes l ↦ absurd (k.1 a l h.0)
      | no n ↦ elim (dec_lt b a) [ yes l ↦ absurd (h.1 b l k.0) | no m ↦ omega arith ]
    ]

pub one_place_append : (front back : List Line) → OnePlaceEach front → OnePlaceEach back → OnePlaceEach (front ++ back)
one_place_append [] back h k = k
one_place_append (l ∷ front) back h k = (h.0, one_place_append front back h.1 k)

-- two faults of one table are equal
pub refuses_determined : (lines : List Line) → OnePlaceEach lines → (f g : Fault) → Refuses lines f → Refuses lines g → f ≡ g
refuses_determined [] one f g h k = absurd h
refuses_determined (l ∷ lines) one f g (inl h) (inl k) =
    h.1 ∙ ap (fault l.number) (one.0 h.0 k.0 h.2 k.2) ∙ sym k.1
refuses_determined (l ∷ lines) one f g (inl h) (inr k) = absurd (k.0 h.0 h.2)
refuses_determined (l ∷ lines) one f g (inr h) (inl k) = absurd (h.0 k.0 k.2)
refuses_determined (l ∷ lines) one f g (inr h) (inr k) = refuses_determined lines one.1 f g h.1 k.1

pub not_passes_and_refuses : (lines : List Line) (f : Fault) → Passes lines → Refuses lines f → ⊥
not_passes_and_refuses [] f h k = k
not_passes_and_refuses (l ∷ lines) f h (inl k) = h.0 k.0 k.2
not_passes_and_refuses (l ∷ lines) f h (inr k) = not_passes_and_refuses lines f h.1 k.1

pub tested_determined : (lines : List Line) → OnePlaceEach lines → (f g : Fault) → Tested lines f → Tested lines g → f ≡ g
tested_determined lines one f g (refused h) (refused k) = refuses_determined lines one f g h k
tested_determined lines one f g (refused h) (passed k e) = absurd (not_passes_and_refuses lines f k h)
tested_determined lines one f g (passed h e) (refused k) = absurd (not_passes_and_refuses lines g h k)
tested_determined lines one f g (passed h e) (passed k d) = e ∙ sym d

-- a table refutes a fault that names another list than its number's
pub refuses_names : (lines : List Line) (f : Fault) → Refuses lines f → f.list ≡ list_at_fault f.number
refuses_names [] f h = absurd h
refuses_names (l ∷ lines) f (inl h) = rw h.1 refl
refuses_names (l ∷ lines) f (inr h) = refuses_names lines f h.1

pub tested_another_list : (lines : List Line) → RefutesAnotherList (λ f. f) (Tested lines)
tested_another_list lines f other (refused h) = other (refuses_names lines f h)
tested_another_list lines f other (passed h e) = other (rw e refl)

-- a line with one stated place
pub placed_never : {k : ℕ} {X : Type 0} → ¬ X → (place : ℕ) → ¬ placed k X place
placed_never n place h = n h.0

pub never_placed : {k : ℕ} {X : Type 0} → ((place : ℕ) → ¬ placed k X place) → ¬ X
never_placed {k} n x = n k (x, refl)

-- a test line by line: the line that applies, a line that does not, and the end
pub tested_line : {l : Line} {lines : List Line} (place : ℕ) → l.given place → {f : Fault} → f ≡ fault l.number place → Tested (l ∷ lines) f
tested_line place g e = refused (inl (place, e, g))

pub tested_past : {l : Line} {lines : List Line} {f : Fault} → ((place : ℕ) → ¬ l.given place) → Tested lines f → Tested (l ∷ lines) f
tested_past n (refused h) = refused (inr (n, h))
tested_past n (passed h e) = passed (n, h) e

pub tested_end : {f : Fault} → f ≡ none → Tested [] f
tested_end e = passed tt e

-- a table in two parts
refuses_front : (front back : List Line) (f : Fault) → Refuses front f → Refuses (front ++ back) f
refuses_front [] back f h = absurd h
refuses_front (l ∷ front) back f (inl h) = inl h
refuses_front (l ∷ front) back f (inr h) = inr (h.0, refuses_front front back f h.1)

pub refuses_back : (front back : List Line) (f : Fault) → Passes front → Refuses back f → Refuses (front ++ back) f
refuses_back [] back f h k = k
refuses_back (l ∷ front) back f h k = inr (h.0, refuses_back front back f h.1 k)

-- what refuses is the back, where the front passes
pub refuses_behind : (front back : List Line) (f : Fault) → Passes front → Refuses (front ++ back) f → Refuses back f
refuses_behind [] back f h k = k
refuses_behind (l ∷ front) back f h (inl k) = absurd (h.0 k.0 k.2)
refuses_behind (l ∷ front) back f h (inr k) = refuses_behind front back f h.1 k.1

-- behind the same front, another back that refuses the same
pub refuses_alike : (front back other : List Line) (f : Fault) → (Passes front → Refuses back f → Refuses other f)
    → Refuses (front ++ back) f → Refuses (front ++ other) f
refuses_alike [] back other f go h = go tt h
refuses_alike (l ∷ front) back other f go (inl h) = inl h
refuses_alike (l ∷ front) back other f go (inr h) = inr (h.0, refuses_alike front back other f (λ pass. go (h.0, pass)) h.1)

pub passes_append : (front back : List Line) → Passes front → Passes back → Passes (front ++ back)
passes_append [] back h k = k
passes_append (l ∷ front) back h k = (h.0, passes_append front back h.1 k)

pub passes_front : (front back : List Line) → Passes (front ++ back) → Passes front
passes_front [] back h = tt
passes_front (l ∷ front) back h = (h.0, passes_front front back h.1)

pub passes_back : (front back : List Line) → Passes (front ++ back) → Passes back
passes_back [] back h = h
passes_back (l ∷ front) back h = passes_back front back h.1

-- What holds of each number of a table holds of the fault's. A table of literals has it by `tt`.
abbrev pub each_number : (ℕ → Bool) → List Line → Bool
each_number test [] = true
each_number test (l ∷ lines) = test l.number && each_number test lines

refuses_tested : (test : ℕ → Bool) (lines : List Line) → T (each_number test lines) → (f : Fault) → Refuses lines f → T (test f.number)
refuses_tested test [] t f h = absurd h
refuses_tested test (l ∷ lines) t f (inl h) =
    subst (λ (n : ℕ). T (test n)) (sym (ap (λ (f : Fault). f.number) h.1)) (and_yes (test l.number) (each_number test lines) t).0
refuses_tested test (l ∷ lines) t f (inr h) = refuses_tested test lines (and_yes (test l.number) (each_number test lines) t).1 f h.1

-- each number is above 0, so the fault's number tells whether the table passed
abbrev pub numbered : List Line → Bool
numbered = each_number (ltb 0)

pub refuses_numbered : (lines : List Line) → T (numbered lines) → (f : Fault) → Refuses lines f → ¬ (f.number ≡ 0)
refuses_numbered lines t f h e = omega (arith, ltb→lt 0 f.number (refuses_tested (ltb 0) lines t f h))

pub refuses_positive : (lines : List Line) → T (numbered lines) → (f : Fault) → Refuses lines f → 0 < f.number
refuses_positive lines t f h = ltb→lt 0 f.number (refuses_tested (ltb 0) lines t f h)

-- each number is below n
abbrev pub numbered_below : ℕ → List Line → Bool
numbered_below n = each_number (λ m. ltb m n)

pub refuses_below : (n : ℕ) (lines : List Line) → T (numbered_below n lines) → (f : Fault) → Refuses lines f → f.number < n
refuses_below n lines t f h = ltb→lt f.number n (refuses_tested (λ m. ltb m n) lines t f h)

pub tested_passes : (lines : List Line) → T (numbered lines) → (f : Fault) → Tested lines f → f.number ≡ 0 → Passes lines × (f ≡ none)
tested_passes lines t f (refused h) z = absurd (refuses_numbered lines t f h z)
tested_passes lines t f (passed h e) z = (h, e)

pub tested_refuses : (lines : List Line) (f : Fault) → Tested lines f → ¬ (f.number ≡ 0) → Refuses lines f
tested_refuses lines f (refused h) n = h
tested_refuses lines f (passed h e) n = absurd (n (ap (λ (g : Fault). g.number) e))

-- a table tested in two parts by the first fault's number: it stops there, or goes on with the second part
module _ (front back : List Line) (f : Fault) (t : Tested front f) where
  pub tested_stops : ¬ (f.number ≡ 0) → Tested (front ++ back) f
  tested_stops n = refused (refuses_front front back f (tested_refuses front f t n))

  pub tested_goes_on : T (numbered front) → f.number ≡ 0 → {g : Fault} → Tested back g → Tested (front ++ back) g
  tested_goes_on some z {g} (refused h) = refused (refuses_back front back g (tested_passes front some f t z).0 h)
  tested_goes_on some z {g} (passed h e) = passed (passes_append front back (tested_passes front some f t z).0 h) e

-- what a `?` hands on is the error that it met
pub exit_err : {A E : Type 0} (r : Result A E) {f : E} → IsErrAnd r (λ g. g ≡ f) → r ≡ Err f
exit_err r h = let p = err_from_is_err_and r h in p.1 ∙ ap Err p.2

pub checked_err : (lines : List Line) {r : Result Unit Fault} {f : Fault} → r ≡ Err f → Refuses lines f → Checked lines r
checked_err lines e h = rw e h

-- a check in two parts: it stops at the first, or goes on with the second
pub checked_stops : (front back : List Line) {r : Result Unit Fault} {f : Fault} → r ≡ Err f → Refuses front f → Checked (front ++ back) r
checked_stops front back {f} e h = checked_err (front ++ back) e (refuses_front front back f h)

pub checked_goes_on : (front back : List Line) (r : Result Unit Fault) → Passes front → Checked back r → Checked (front ++ back) r
checked_goes_on front back (Ok _) h k = passes_append front back h k
checked_goes_on front back (Err f) h k = refuses_back front back f h k

-- what is told of an error
pub stands_err : {A B : Type 0} (of_fault : Fault → B) (of_value : A → B) (Promise : B → Type 0) {r : Result A Fault} {f : Fault}
    → r ≡ Err f → 0 < f.number → Promise (of_fault f) → StandsFor of_fault of_value Promise r
stands_err of_fault of_value Promise e l h = rw e (l, h)

-- What is told of a `Result`. Of that the promise holds.
abbrev pub told : {A B : Type 0} → (Fault → B) → (A → B) → Result A Fault → B
told of_fault of_value (Ok value) = of_value value
told of_fault of_value (Err f) = of_fault f

pub stands_told : {A B : Type 0} (of_fault : Fault → B) (of_value : A → B) (Promise : B → Type 0) (r : Result A Fault)
    → StandsFor of_fault of_value Promise r → Promise (told of_fault of_value r)
stands_told of_fault of_value Promise (Ok value) h = h
stands_told of_fault of_value Promise (Err f) h = h.1

-- a promise from which another follows
pub stands_weaker : {A B : Type 0} (of_fault : Fault → B) (of_value : A → B) (Promise Weaker : B → Type 0) → ((b : B) → Promise b → Weaker b)
    → (r : Result A Fault) → StandsFor of_fault of_value Promise r → StandsFor of_fault of_value Weaker r
stands_weaker of_fault of_value Promise Weaker go (Ok value) h = go (of_value value) h
stands_weaker of_fault of_value Promise Weaker go (Err f) h = (h.0, go (of_fault f) h.1)

-- where no fault with a number is told like a value, and a fault and a value are known by what is told of them, a promise that settles what is told settles the `Result`
pub stands_determined : {A B : Type 0} (of_fault : Fault → B) (of_value : A → B) (Promise : B → Type 0)
    → ((f g : Fault) → of_fault f ≡ of_fault g → f ≡ g) → ((x y : A) → of_value x ≡ of_value y → x ≡ y)
    → ((f : Fault) (x : A) → 0 < f.number → ¬ (of_fault f ≡ of_value x))
    → ((b c : B) → Promise b → Promise c → b ≡ c)
    → (r q : Result A Fault) → StandsFor of_fault of_value Promise r → StandsFor of_fault of_value Promise q → r ≡ q
stands_determined of_fault of_value Promise faults values apart same (Ok x) (Ok y) h k = ap Ok (values x y (same _ _ h k))
stands_determined of_fault of_value Promise faults values apart same (Ok x) (Err g) h k = absurd (apart g x k.0 (same _ _ k.1 h))
stands_determined of_fault of_value Promise faults values apart same (Err f) (Ok y) h k = absurd (apart f y h.0 (same _ _ h.1 k))
stands_determined of_fault of_value Promise faults values apart same (Err f) (Err g) h k = ap Err (faults f g (same _ _ h.1 k.1))

-- a check gives one `Result`
pub checked_determined : (lines : List Line) → OnePlaceEach lines → (r q : Result Unit Fault) → Checked lines r → Checked lines q → r ≡ q
checked_determined lines one (Ok x) (Ok y) h k = refl
checked_determined lines one (Ok x) (Err g) h k = absurd (not_passes_and_refuses lines g h k)
checked_determined lines one (Err f) (Ok y) h k = absurd (not_passes_and_refuses lines f k h)
checked_determined lines one (Err f) (Err g) h k = ap Err (refuses_determined lines one f g h k)

-- The fault that a check says: none where it passes. Of this a test of the lines tells.
abbrev pub fault_said : Result Unit Fault → Fault
fault_said (Ok _) = none
fault_said (Err f) = f

pub checked_tested : (lines : List Line) (r : Result Unit Fault) → Checked lines r → Tested lines (fault_said r)
checked_tested lines (Ok _) h = passed h refl
checked_tested lines (Err f) h = refused h

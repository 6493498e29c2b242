-- The check of the rooms settles its fault; the first n numbers of a list set to 0, and what stands where then.
use Rattle.std.specs.Prelude.{◌≡◌, Result, List, ◌++◌, ℕ, ◌+◌, ◌-◌, ◌≤◌, ◌<◌, min, length, get_or, drop, replicate}
use Rattle.std.proofs.Common.{sym, ◌∙◌, ap, arith, length-append, length-drop, drop_at, drop-drop}
use Rattle.std.proofs.lemmas.List.{length-replicate, get_or-replicate}
use Rattle.std.proofs.Math.ListN.{get_or-append}
use Rattle.field.specs.Refusal.{Tested, Checked}
use Rattle.field.specs.Faults.Laws.{whole_one_place, tested_determined, checked_determined}
use Rattle.field.specs.declared.faults.Fault.{Fault}
use Rattle.poly.specs.Room.{of_rooms, work_room, zeroed, cleared}

pub rooms_check_determined : (output needed work : ℕ) (f g : Fault) → Tested (of_rooms output needed work) f → Tested (of_rooms output needed work) g → f ≡ g
rooms_check_determined output needed work =
    tested_determined (of_rooms output needed work) (whole_one_place _, (whole_one_place _, tt))

pub rooms_checked_determined : (output needed work : ℕ) (r q : Result Unit Fault) → Checked (of_rooms output needed work) r
    → Checked (of_rooms output needed work) q → r ≡ q
rooms_checked_determined output needed work =
    checked_determined (of_rooms output needed work) (whole_one_place _, (whole_one_place _, tt))

-- where there are n numbers, all n are set
pub zeroed_all : (n : ℕ) (l : List ℕ) {m : List ℕ} → n ≤ length l → m ≡ zeroed (min n (length l)) l → m ≡ zeroed n l
zeroed_all n l h e = e ∙ ap (λ (k : ℕ). zeroed k l) (omega arith)

zeros_long : (n : ℕ) → length {A = ℕ} (replicate n 0) ≡ n
zeros_long n = length-replicate {A = ℕ} n 0

pub zeroed_length : (n : ℕ) (l : List ℕ) → n ≤ length l → length (zeroed n l) ≡ length l
unfolding zeroed
zeroed_length n l h = length-append (replicate n 0) (drop n l) ∙ sum (zeros_long n) (length-drop n l)
  where
    sum : {a b : ℕ} → a ≡ n → b ≡ length l - n → a + b ≡ length l
    sum p q = omega arith

pub zeroed_at : (n : ℕ) (l : List ℕ) (i : ℕ) → i < n → get_or (zeroed n l) i 0 ≡ 0
unfolding zeroed
zeroed_at n l i h =
    let e = zeros_long n in
    get_or-append (replicate n 0) (drop n l) 0 i (omega arith) ∙ get_or-replicate {A = ℕ} n i 0 0 h

-- the rest is left
pub zeroed_beyond : (n m : ℕ) (l : List ℕ) → drop (n + m) (zeroed n l) ≡ drop (n + m) l
unfolding zeroed
zeroed_beyond n m l =
    sym (drop-drop m n (replicate n 0 ++ drop n l)) ∙ ap (drop m) (drop_at (replicate n 0) (drop n l) n (zeros_long n)) ∙ drop-drop m n l

pub zeroed_same : (n : ℕ) (l m : List ℕ) → drop n l ≡ drop n m → zeroed n l ≡ zeroed n m
unfolding zeroed
zeroed_same n l m e = ap (λ (r : List ℕ). replicate n 0 ++ r) e

-- clearing once more changes nothing
pub cleared_again : (work : List ℕ) → cleared (cleared work) ≡ cleared work
cleared_again work = zeroed_same work_room (cleared work) work (zeroed_beyond work_room 0 work)

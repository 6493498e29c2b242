-- The promises of the arithmetic services settle their answers, and what is known where no line applies.
use Rattle.std.specs.Prelude.{◌≡◌, refl, List, ℕ, ◌*◌, ◌%◌, ◌≤◌, ◌<◌, T, Result, Err}
use Rattle.std.proofs.Common.{sym, ap, ◌∙◌, inl, arith}
use Rattle.field.specs.Modulus.Laws.{listed_stable}
use Rattle.field.specs.Fp.{el}
use Rattle.field.specs.Elements.Fp.{el_below_inj}
use Rattle.field.specs.Elements.Inverse.{inverse_unique}
use Rattle.field.specs.Elements.Link.{inverse_mul}
use Rattle.field.specs.Refusal.{Line, none, Passes, Refuses, StandsFor, RefutesAnotherList}
use Rattle.field.specs.Faults.Laws.{OnePlaceEach, placed_one_place, whole_one_place, never_placed}
use Rattle.field.specs.Faults.Laws.{refuses_determined, refuses_names, not_passes_and_refuses, numbered, refuses_positive, stands_err, stands_determined}
use Rattle.field.specs.Contract.{element, Fit, Invertible, sum_of, difference_of, product_of, Inverse}
use Rattle.field.specs.Arithmetic.{two_operands, inverse_operand, Arithmetic, refused, answered, AskSum, AskDifference, AskProduct, AskInverse, Answer, refused_answer, given_answer}
use Rattle.field.specs.declared.faults.Fault.{Fault}
use Rattle.field.specs.declared.elements.Element.{Element}

abbrev pub answer : Fault → Element → Answer
answer f e = record { fault = f; element = e }

-- one law over the table and the outcome: where an outcome is determined, so is the answer
pub arithmetic_determined : (lines : List Line) → OnePlaceEach lines
    → (Outcome : Element → Type 0) → ((x y : Element) → Outcome x → Outcome y → x ≡ y)
    → (a : Element) (r q : Answer) → Arithmetic lines Outcome a r → Arithmetic lines Outcome a q → r ≡ q
arithmetic_determined lines one Outcome same a r q (refused f h) (refused g k) =
    ap (λ (f : Fault). answer f (element a.modulus 0)) (refuses_determined lines one f g h k)
arithmetic_determined lines one Outcome same a r q (refused f h) (answered y k o) =
    absurd (not_passes_and_refuses lines f k h)
arithmetic_determined lines one Outcome same a r q (answered x h o) (refused g k) =
    absurd (not_passes_and_refuses lines g h k)
arithmetic_determined lines one Outcome same a r q (answered x h o) (answered y k u) =
    ap (λ (e : Element). answer none e) (same x y o u)

-- an outcome that is said outright, as the sum, the difference and the product
said_determined : (a b e : Element) (r q : Answer)
    → Arithmetic (two_operands a b) (λ x. x ≡ e) a r → Arithmetic (two_operands a b) (λ x. x ≡ e) a q → r ≡ q
said_determined a b e =
    arithmetic_determined (two_operands a b) (whole_one_place _, (placed_one_place 0 _, (placed_one_place 1 _, tt))) (λ x. x ≡ e) (λ x y h k. h ∙ sym k) a

pub sum_determined : (a b : Element) (r q : Answer) → AskSum a b r → AskSum a b q → r ≡ q
sum_determined a b = said_determined a b (sum_of a b)

pub difference_determined : (a b : Element) (r q : Answer) → AskDifference a b r → AskDifference a b q → r ≡ q
difference_determined a b = said_determined a b (difference_of a b)

pub product_determined : (a b : Element) (r q : Answer) → AskProduct a b r → AskProduct a b q → r ≡ q
product_determined a b = said_determined a b (product_of a b)

-- the law of the inverse leaves one number
pub inverse_value_unique : (p a x y : ℕ) → x < p → y < p → (a * x) % p ≡ 1 → (a * y) % p ≡ 1 → x ≡ y
inverse_value_unique p a x y l m h k =
    el_below_inj p x y l m (inverse_unique (el p a) (el p x) (el p y) (inverse_mul p a x h) (inverse_mul p a y k))

pub inverses_equal : (a r q : Element) → Inverse a r → Inverse a q → r ≡ q
inverses_equal a r q h k =
    let m : r.modulus ≡ q.modulus = h.same ∙ sym k.same in
    let v : r.value ≡ q.value =
    inverse_value_unique a.modulus a.value r.value q.value h.below k.below h.product_one k.product_one in
    λ i. element (m i) (v i)

pub inverse_determined : (a : Element) (r q : Answer) → AskInverse a r → AskInverse a q → r ≡ q
inverse_determined a =
    arithmetic_determined (inverse_operand a) (whole_one_place _, (placed_one_place 0 _, (whole_one_place _, tt))) (Inverse a) (inverses_equal a) a

-- so each service gives one `Result`
abbrev pub OneResult : Element → (Answer → Type 0) → Type 0
OneResult a Promise = (r q : Result Element Fault)
    → StandsFor (refused_answer a) given_answer Promise r → StandsFor (refused_answer a) given_answer Promise q → r ≡ q

one_result : (a : Element) (Promise : Answer → Type 0) → ((r q : Answer) → Promise r → Promise q → r ≡ q) → OneResult a Promise
one_result a Promise =
    stands_determined (refused_answer a) given_answer Promise (λ f g e. ap (λ (r : Answer). r.fault) e) (λ x y e. ap (λ (r : Answer). r.element) e)
    (λ f x l e. omega (arith, l, ap (λ (r : Answer). r.fault.number) e))

pub ask_sum_determined : (a b : Element) → OneResult a (AskSum a b)
ask_sum_determined a b = one_result a (AskSum a b) (sum_determined a b)

pub ask_difference_determined : (a b : Element) → OneResult a (AskDifference a b)
ask_difference_determined a b = one_result a (AskDifference a b) (difference_determined a b)

pub ask_product_determined : (a b : Element) → OneResult a (AskProduct a b)
ask_product_determined a b = one_result a (AskProduct a b) (product_determined a b)

pub ask_inverse_determined : (a : Element) → OneResult a (AskInverse a)
ask_inverse_determined a = one_result a (AskInverse a) (inverse_determined a)

-- no service names another list than its number's
pub arithmetic_another_list : (lines : List Line) (Outcome : Element → Type 0) (a : Element) → RefutesAnotherList (λ r. r.fault) (Arithmetic lines Outcome a)
arithmetic_another_list lines Outcome a r other (refused f h) = other (refuses_names lines f h)
arithmetic_another_list lines Outcome a r other (answered x h o) = other refl

-- operands to which no line applies are those that the operations ask for
pub operands_fit : (a b : Element) → Passes (two_operands a b) → Fit a b
operands_fit a b passed =
    let first = never_placed passed.1.0 in
    let large : ¬ (a.modulus ≤ b.value) = λ l. never_placed passed.1.1.0 (inl l) in
    record { below = omega arith; other_below = omega arith }

pub operand_invertible : (a : Element) → Passes (inverse_operand a) → Invertible a
operand_invertible a passed =
    let first = never_placed passed.1.0 in
    let zero = never_placed passed.1.1.0 in
    record { is_listed = listed_stable a.modulus (never_placed passed.0); below = omega arith; nonzero = omega arith }

-- a service that refuses as its check does
pub ask_refused : (lines : List Line) (Outcome : Element → Type 0) (a : Element) (f : Fault) (r : Result Element Fault)
    → T (numbered lines) → Refuses lines f → r ≡ Err f → StandsFor (refused_answer a) given_answer (Arithmetic lines Outcome a) r
ask_refused lines Outcome a f r some h e = stands_err (refused_answer a) given_answer (Arithmetic lines Outcome a) e (refuses_positive lines some f h) (refused f h)

-- Expressions of a commutative ring, their normal forms, and when two normal forms agree: all of it computes, for the solver.
use Rattle.std.specs.Prelude.{List, [], ◌∷◌}
use Prim.Native.Nat.{ℕ, ◌+◌ as ◌+ₙ◌, ◌*◌ as ◌*ₙ◌, compare, Ordering}

infixl 60 ◌⊕◌ ◌⊖◌
infixl 70 ◌⊗◌
-- an element by its place in a list, 0 and 1, sums, products and opposites
pub data Expr : Type 0 where
  var : ℕ → Expr
  k0 k1 : Expr
  ◌⊕◌ ◌⊗◌ : Expr → Expr → Expr
  ⊝ : Expr → Expr

abbrev pub ◌⊖◌ : Expr → Expr → Expr
a ⊖ b = a ⊕ ⊝ b

-- a sum of monomials, each so many times; a monomial is the sorted list of its factors' places
pub data Sum : Type 0 where
  empty : Sum
  more : ℕ → List ℕ → Sum → Sum

-- one of three, by the order of two things
abbrev pub choose : {A : Type 0} → Ordering → A → A → A → A
choose Ordering.lt x y z = x
choose Ordering.eq x y z = y
choose Ordering.gt x y z = z

-- monomials: a factor more, and the product of two
abbrev pub insert : ℕ → List ℕ → List ℕ
insert i [] = i ∷ []
insert i (j ∷ m) = choose (compare i j) (i ∷ j ∷ m) (i ∷ j ∷ m) (j ∷ insert i m)

abbrev pub join : List ℕ → List ℕ → List ℕ
join [] n = n
join (i ∷ m) n = insert i (join m n)

-- the order of two monomials: by their first factors, then by the others
abbrev pub then : Ordering → Ordering → Ordering
then Ordering.lt o = Ordering.lt
then Ordering.eq o = o
then Ordering.gt o = Ordering.gt

abbrev pub order : List ℕ → List ℕ → Ordering
order [] [] = Ordering.eq
order [] (j ∷ n) = Ordering.lt
order (i ∷ m) [] = Ordering.gt
order (i ∷ m) (j ∷ n) = then (compare i j) (order m n)

-- sums: k times the monomial m more, the sum of two, k times m times one, and the product of two
abbrev pub put : ℕ → List ℕ → Sum → Sum
put k m empty = more k m empty
put k m (more j n s) = choose (order m n) (more k m (more j n s)) (more (k +ₙ j) n s) (more j n (put k m s))

abbrev pub both : Sum → Sum → Sum
both empty t = t
both (more k m s) t = put k m (both s t)

abbrev pub scaled : ℕ → List ℕ → Sum → Sum
scaled k m empty = empty
scaled k m (more j n s) = put (k *ₙ j) (join m n) (scaled k m s)

abbrev pub times : Sum → Sum → Sum
times empty t = empty
times (more k m s) t = both (scaled k m t) (times s t)

-- a normal form: what is added, and what is taken off
pub record NormalForm : Type 0 where
  pub pos : Sum
  pub neg : Sum

abbrev pub add_forms : NormalForm → NormalForm → NormalForm
add_forms a b = record { pos = both a.pos b.pos; neg = both a.neg b.neg }

abbrev pub multiply_forms : NormalForm → NormalForm → NormalForm
multiply_forms a b = record {
  pos = both (times a.pos b.pos) (times a.neg b.neg);
  neg = both (times a.pos b.neg) (times a.neg b.pos);
}

abbrev pub normal : Expr → NormalForm
normal (var i) = record { pos = more 1 (i ∷ []) empty; neg = empty }
normal k0 = record { pos = empty; neg = empty }
normal k1 = record { pos = more 1 [] empty; neg = empty }
normal (a ⊕ b) = add_forms (normal a) (normal b)
normal (a ⊗ b) = multiply_forms (normal a) (normal b)
normal (⊝ a) = record { pos = (normal a).neg; neg = (normal a).pos }

-- two things are equal, and T
abbrev pub EqualAnd : Ordering → Type 0 → Type 0
EqualAnd Ordering.lt T = ⊥
EqualAnd Ordering.eq T = T
EqualAnd Ordering.gt T = ⊥

abbrev pub Equal : Ordering → Type 0
Equal o = EqualAnd o (Unit {0})

abbrev pub Same : Sum → Sum → Type 0
Same empty empty = Unit {0}
Same empty (more j n t) = ⊥
Same (more k m s) empty = ⊥
Same (more k m s) (more j n t) = EqualAnd (compare k j) (EqualAnd (order m n) (Same s t))

-- the difference of the two is nothing
abbrev pub Agree : NormalForm → NormalForm → Type 0
Agree a b = Same (both a.pos b.neg) (both b.pos a.neg)

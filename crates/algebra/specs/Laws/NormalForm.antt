-- Expressions whose normal forms agree are equal in every commutative ring.
use Rattle.std.specs.Prelude.{◌≡◌}
use Rattle.std.proofs.Math.Path.{refl, sym, ap, ap₂}
use Rattle.std.proofs.Common.{◌∙◌, subst, suc-add, zero-add as zero_addₙ, suc-mul, zero-mul as zero_mulₙ}
use mathlib.Core.List.{List, [], ◌∷◌}
use Prim.Native.Nat.compare
use Prim.Native.Nat.{ℕ, zero, suc, ◌+◌ as ◌+ₙ◌, ◌*◌ as ◌*ₙ◌, compare, Ordering}
use Rattle.algebra.specs.Ring.{CommRing}
use Rattle.algebra.specs.Models.NormalForm.{◌⊕◌, Expr, var, k0, k1, ◌⊗◌, ⊝, Sum, empty, more, choose, insert, join, then, order, put, both, scaled}
use Rattle.algebra.specs.Models.NormalForm.{times, NormalForm, normal, EqualAnd, Equal, Same, Agree}
use Rattle.algebra.specs.Laws.Ring.{zero_add, add_left_comm, mul_left_comm, one_mul, distrib_l, add_neg_cancel, zero_mul, mul_zero, neg_mul, mul_neg}
use Rattle.algebra.specs.Laws.Ring.{neg_neg, neg_zero, neg_dist}

compare_eq : (m n : ℕ) → Equal (compare m n) → m ≡ n
compare_eq zero zero t = refl
compare_eq zero (suc n) t = absurd (subst Equal (compare.zero-suc n) t)
compare_eq (suc m) zero t = absurd (subst Equal (compare.suc-zero m) t)
compare_eq (suc m) (suc n) t = ap suc (compare_eq m n (subst Equal (compare.suc-suc m n) t))

equal_first : (o : Ordering) (T : Type 0) → EqualAnd o T → Equal o
equal_first Ordering.lt T p = absurd p
equal_first Ordering.eq T p = tt
equal_first Ordering.gt T p = absurd p

equal_rest : (o : Ordering) (T : Type 0) → EqualAnd o T → T
equal_rest Ordering.lt T p = absurd p
equal_rest Ordering.eq T p = p
equal_rest Ordering.gt T p = absurd p

then_first : (o u : Ordering) → Equal (then o u) → Equal o
then_first Ordering.lt u p = p
then_first Ordering.eq u p = tt
then_first Ordering.gt u p = p

then_second : (o u : Ordering) → Equal (then o u) → Equal u
then_second Ordering.lt u p = absurd p
then_second Ordering.eq u p = p
then_second Ordering.gt u p = absurd p

order_eq : (m n : List ℕ) → Equal (order m n) → m ≡ n
order_eq [] [] p = refl
order_eq [] (j ∷ n) p = absurd p
order_eq (i ∷ m) [] p = absurd p
order_eq (i ∷ m) (j ∷ n) p = ap₂ ◌∷◌ (compare_eq i j (then_first (compare i j) (order m n) p)) (order_eq m n (then_second (compare i j) (order m n) p))

chosen : {A : Type 0} (P : A → Type 0) (o : Ordering) (x y z : A) → P x → (Equal o → P y) → P z → P (choose o x y z)
chosen P Ordering.lt x y z p q r = p
chosen P Ordering.eq x y z p q r = q tt
chosen P Ordering.gt x y z p q r = r

-- the value of an expression at a list of elements, and of its normal form
module _ (R : CommRing) where
  open R use {Car, 𝟘, 𝟙, add as ◌+◌, mul as ◌*◌, neg}

  infixl 60 ◌+◌
  infixl 70 ◌*◌
  abbrev nat : ℕ → Car
  nat zero = 𝟘
  nat (suc n) = 𝟙 + nat n

  abbrev nth : List Car → ℕ → Car
  nth [] i = 𝟘
  nth (x ∷ ρ) zero = x
  nth (x ∷ ρ) (suc i) = nth ρ i

  abbrev pub meaning : Expr → List Car → Car
  meaning (var i) ρ = nth ρ i
  meaning k0 ρ = 𝟘
  meaning k1 ρ = 𝟙
  meaning (a ⊕ b) ρ = meaning a ρ + meaning b ρ
  meaning (a ⊗ b) ρ = meaning a ρ * meaning b ρ
  meaning (⊝ a) ρ = neg (meaning a ρ)

  product : List ℕ → List Car → Car
  product [] ρ = 𝟙
  product (i ∷ m) ρ = nth ρ i * product m ρ

  total : Sum → List Car → Car
  total empty ρ = 𝟘
  total (more k m s) ρ = nat k * product m ρ + total s ρ

  nat_add : (a b : ℕ) → nat (a +ₙ b) ≡ nat a + nat b
  nat_add zero b = rw zero_addₙ (sym (zero_add R _))
  nat_add (suc a) b = rw suc-add (ap (𝟙 +◌) (nat_add a b) ∙ sym (R.add_assoc _ _ _))

  nat_mul : (a b : ℕ) → nat (a *ₙ b) ≡ nat a * nat b
  nat_mul zero b = rw zero_mulₙ (sym (zero_mul R _))
  nat_mul (suc a) b = rw suc-mul
      (nat_add (a *ₙ b) b ∙ ap₂ ◌+◌ (nat_mul a b) (sym (one_mul R _)) ∙ R.add_comm _ _ ∙ sym (R.distrib _ _ _))

  product_insert : (i : ℕ) (m : List ℕ) (ρ : List Car) → product (insert i m) ρ ≡ nth ρ i * product m ρ
  unfolding product
  product_insert i [] ρ = refl
  product_insert i (j ∷ m) ρ = chosen (λ l. product l ρ ≡ nth ρ i * (nth ρ j * product m ρ)) (compare i j) _ _ _ refl (λ e. refl)
      (ap (nth ρ j *◌) (product_insert i m ρ) ∙ mul_left_comm R _ _ _)

  product_join : (m n : List ℕ) (ρ : List Car) → product (join m n) ρ ≡ product m ρ * product n ρ
  unfolding product
  product_join [] n ρ = sym (one_mul R _)
  product_join (i ∷ m) n ρ = product_insert i (join m n) ρ ∙ ap (nth ρ i *◌) (product_join m n ρ) ∙ sym (R.mul_assoc _ _ _)

  total_put : (k : ℕ) (m : List ℕ) (s : Sum) (ρ : List Car) → total (put k m s) ρ ≡ nat k * product m ρ + total s ρ
  unfolding total
  total_put k m empty ρ = refl
  total_put k m (more j n s) ρ = chosen (λ t. total t ρ ≡ nat k * product m ρ + (nat j * product n ρ + total s ρ)) (order m n) _ _ _ refl
      (λ e. ap (◌+ total s ρ) (ap (◌* product n ρ) (nat_add k j) ∙ R.distrib _ _ _
      ∙ ap (λ u. nat k * product u ρ + nat j * product n ρ) (sym (order_eq m n e)))
      ∙ R.add_assoc _ _ _)
      (ap (nat j * product n ρ +◌) (total_put k m s ρ) ∙ add_left_comm R _ _ _)

  total_both : (s t : Sum) (ρ : List Car) → total (both s t) ρ ≡ total s ρ + total t ρ
  unfolding total
  total_both empty t ρ = sym (zero_add R _)
  total_both (more k m s) t ρ = total_put k m (both s t) ρ ∙ ap (nat k * product m ρ +◌) (total_both s t ρ) ∙ sym (R.add_assoc _ _ _)

  mul_mul_comm : (a b c d : Car) → (a * b) * (c * d) ≡ (a * c) * (b * d)
  mul_mul_comm a b c d = simp (R.mul_assoc, mul_left_comm R)

  total_scaled : (k : ℕ) (m : List ℕ) (t : Sum) (ρ : List Car) → total (scaled k m t) ρ ≡ nat k * product m ρ * total t ρ
  unfolding total
  total_scaled k m empty ρ = sym (mul_zero R _)
  total_scaled k m (more j n s) ρ = total_put (k *ₙ j) (join m n) (scaled k m s) ρ
      ∙ ap₂ ◌+◌ (ap₂ ◌*◌ (nat_mul k j) (product_join m n ρ) ∙ mul_mul_comm _ _ _ _) (total_scaled k m s ρ)
      ∙ sym (distrib_l R _ _ _)

  total_times : (s t : Sum) (ρ : List Car) → total (times s t) ρ ≡ total s ρ * total t ρ
  unfolding total
  total_times empty t ρ = sym (zero_mul R _)
  total_times (more k m s) t ρ = total_both (scaled k m t) (times s t) ρ ∙ ap₂ ◌+◌ (total_scaled k m t ρ) (total_times s t ρ) ∙ sym (R.distrib _ _ _)

  total_same : (s t : Sum) (ρ : List Car) → Same s t → total s ρ ≡ total t ρ
  unfolding total
  total_same empty empty ρ p = refl
  total_same empty (more j n t) ρ p = absurd p
  total_same (more k m s) empty ρ p = absurd p
  total_same (more k m s) (more j n t) ρ p =
      let q = equal_rest (compare k j) _ p in
      ap₂ ◌+◌ (ap₂ ◌*◌ (ap nat (compare_eq k j (equal_first (compare k j) _ p))) (ap (λ u. product u ρ) (order_eq m n (equal_first (order m n) _ q))))
      (total_same s t ρ (equal_rest (order m n) _ q))

  value : NormalForm → List Car → Car
  value a ρ = total a.pos ρ + neg (total a.neg ρ)

  differences_equal : (p s q r : Car) → p + s ≡ r + q → p + neg q ≡ r + neg s
  differences_equal p s q r e =
      sym (R.add_assoc p s (neg q + neg s) ∙ ap (p +◌) (add_left_comm R s (neg q) (neg s) ∙ ap (neg q +◌) (R.add_neg s) ∙ R.add_zero _))
      ∙ ap (◌+ (neg q + neg s)) e ∙ R.add_assoc r q (neg q + neg s) ∙ ap (r +◌) (add_neg_cancel R q (neg s))

  add_differences : (p q r s : Car) → (p + neg q) + (r + neg s) ≡ (p + r) + neg (q + s)
  add_differences p q r s = simp (neg_dist R, R.add_assoc, add_left_comm R)

  multiply_differences : (p q r s : Car) → (p + neg q) * (r + neg s) ≡ (p * r + q * s) + neg (p * s + q * r)
  multiply_differences p q r s = simp (R.distrib, distrib_l R, neg_mul R, mul_neg R, neg_neg R, neg_dist R, R.add_assoc, R.add_comm, add_left_comm R)

  normal_sound : (e : Expr) (ρ : List Car) → meaning e ρ ≡ value (normal e) ρ
  unfolding value total product
  normal_sound (var i) ρ = sym (ap₂ ◌+◌ (R.add_zero _ ∙ ap₂ ◌*◌ (R.add_zero _) (R.mul_one _) ∙ one_mul R _) (neg_zero R) ∙ R.add_zero _)
  normal_sound k0 ρ = sym (ap (𝟘 +◌) (neg_zero R) ∙ R.add_zero _)
  normal_sound k1 ρ = sym (ap₂ ◌+◌ (R.add_zero _ ∙ R.mul_one _ ∙ R.add_zero _) (neg_zero R) ∙ R.add_zero _)
  normal_sound (a ⊕ b) ρ = ap₂ ◌+◌ (normal_sound a ρ) (normal_sound b ρ)
      ∙ add_differences _ _ _ _
      ∙ sym (ap₂ (λ x y. x + neg y) (total_both (normal a).pos (normal b).pos ρ) (total_both (normal a).neg (normal b).neg ρ))
  normal_sound (a ⊗ b) ρ = ap₂ ◌*◌ (normal_sound a ρ) (normal_sound b ρ) ∙ multiply_differences _ _ _ _
      ∙ sym (ap₂ (λ x y. x + neg y)
      (total_both (times (normal a).pos (normal b).pos) (times (normal a).neg (normal b).neg) ρ
      ∙ ap₂ ◌+◌ (total_times (normal a).pos (normal b).pos ρ) (total_times (normal a).neg (normal b).neg ρ))
      (total_both (times (normal a).pos (normal b).neg) (times (normal a).neg (normal b).pos) ρ
      ∙ ap₂ ◌+◌ (total_times (normal a).pos (normal b).neg ρ) (total_times (normal a).neg (normal b).pos ρ)))
  normal_sound (⊝ a) ρ = ap neg (normal_sound a ρ) ∙ neg_dist R _ _ ∙ ap (neg (total (normal a).pos ρ) +◌) (neg_neg R _) ∙ R.add_comm _ _

  -- expressions whose normal forms agree have the same value
  pub agreeing : (ρ : List Car) (e f : Expr) → Agree (normal e) (normal f) → meaning e ρ ≡ meaning f ρ
  unfolding value
  agreeing ρ e f p = normal_sound e ρ
      ∙ differences_equal _ _ _ _ (sym (total_both (normal e).pos (normal f).neg ρ) ∙ total_same _ _ ρ p
      ∙ total_both (normal f).pos (normal e).neg ρ)
      ∙ sym (normal_sound f ρ)

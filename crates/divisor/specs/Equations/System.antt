-- The rows of the equations, in the order of the loop that adds them, are those of the kept points, one point after the other.
use Rattle.std.specs.Prelude.{◌≡◌, length}
use Rattle.std.proofs.Math.Path.{refl, sym, ap, ap₂}
use Rattle.std.proofs.Common.{◌∙◌}
use mathlib.Core.List.{List, [], ◌∷◌, ◌++◌, map, map-append, append_assoc}
use Prim.Native.Nat.{ℕ, zero, suc, ◌+◌, ◌-◌, ◌*◌, ◌/◌, ◌%◌, ◌≤◌, ◌<◌}
use native.Mathlib.Omega.{arith}
use Rattle.std.proofs.Math.ListN.{get_or, length-append}
use Rattle.std.proofs.Math.Seq.{get_or_at}
use Rattle.algebra.specs.Field.{Field}
use Rattle.algebra.specs.Four.{Exponents}
use Rattle.field.specs.Prime.{Prime}
use Rattle.field.specs.Modulus.Prime.{prime_positive}
use Rattle.field.specs.Fp.{el, neg}
use Rattle.field.specs.Elements.Fp.{el_mod}
use Rattle.field.specs.Elements.Link.{opposite_el}
use Rattle.field.specs.Modulo.{Modulo}
use Rattle.field.specs.Loops.Fold.{upwards}
use Rattle.poly.specs.Keys.{exponents}
use Rattle.poly.specs.PointValue.{Point}
use Rattle.poly.specs.Coefficients.{series}
use Rattle.divisor.specs.declared.table.Row.{Row}
use Rattle.divisor.specs.declared.table.Table.{Table}
use Rattle.divisor.specs.Rule.{Kept}
use Rattle.divisor.specs.Points.Parts.{part_at}
use Rattle.divisor.specs.Table.Model.{no_row}
use Rattle.divisor.specs.Table.Meaning.{row_of, rows_of}
use Rattle.divisor.specs.Equations.Rows.{row, rows_at, rows_from, kept_rows}
use Rattle.divisor.specs.Equations.Model.{image_at, kept_at, next_column, IsEquationOf, SystemReady, AddsFirst}
use Rattle.divisor.specs.Equations.RowLaws.{equation_row}

upwards_add : (i a b j : ℕ) → j ≡ i + a → upwards i (a + b) ≡ upwards i a ++ upwards j b
unfolding upwards
upwards_add i zero b j e = let q : i ≡ j = omega arith in let r : zero + b ≡ b = omega arith in λ k. upwards (q k) (r k)
upwards_add i (suc a) b j e =
    let r : suc a + b ≡ suc (a + b) = omega arith in ap (upwards i) r ∙ ap (i ∷◌) (upwards_add (suc i) a b j (omega arith))

-- a list whose elements are made to the numbers from i on
made_upwards : {A B : Type 0} (f : A → B) (g : ℕ → B) (d : A) (list : List A) (i : ℕ) → ((j : ℕ) → j < length list → f (get_or list j d) ≡ g (i + j))
    → map f list ≡ map g (upwards i (length list))
unfolding upwards
made_upwards f g d [] i h = refl
made_upwards f g d (x ∷ list) i h =
    let q : i + 0 ≡ i = omega arith in
    ap₂ ◌∷◌ (h 0 (omega arith) ∙ ap g q)
    (made_upwards f g d list (suc i) (λ j l. let r : i + suc j ≡ suc i + j = omega arith in h (suc j) (omega arith) ∙ ap g r))

pub next_fits : (n kept : ℕ) → kept < suc n → next_column n kept < suc n
next_fits n zero l = omega arith
next_fits n (suc kept) l = omega arith

-- any points, of which n stand behind the first
module _ (K : Field) (es : List Exponents) {X : Type 0} (at : X → Kept K) (d : X) (n : ℕ) where
  abbrev equation_of : List X → ℕ → List K.ring.Car
  equation_of xs k = row K es (suc n) (next_column n (k / 8)) (at (get_or xs (k / 8) d)) (k % 8)

  -- the equations of one point
  of_one : (xs : List X) (a i j k : ℕ) → k ≡ 8 * a + i → i + j ≤ 8
      → map (equation_of xs) (upwards k j) ≡ rows_at K es (suc n) (next_column n a) (at (get_or xs a d)) i j
  unfolding upwards
  of_one xs a i zero k e l = refl
  of_one xs a i (suc j) k e l =
      let q : k / 8 ≡ a = omega arith in
      let r : k % 8 ≡ i = omega arith in
      ap₂ ◌∷◌ (λ s. row K es (suc n) (next_column n (q s)) (at (get_or xs (q s) d)) (r s)) (of_one xs a (suc i) j (suc k) (omega arith) (omega arith))

  -- those of the next point, and the rest
  of_next : (xs : List X) (k m : ℕ)
      → map (equation_of xs) (upwards k (8 * suc m)) ≡ map (equation_of xs) (upwards k 8) ++ map (equation_of xs) (upwards (k + 8) (8 * m))
  of_next xs k m =
      let r : 8 * suc m ≡ 8 + 8 * m = omega arith in
      ap (λ (n : ℕ). map (equation_of xs) (upwards k n)) r ∙ ap (map (equation_of xs)) (upwards_add k 8 (8 * m) (k + 8) refl)
      ∙ map-append (equation_of xs) (upwards k 8) (upwards (k + 8) (8 * m))

  -- those of the points behind the first
  of_rest : (xs front rest : List X) (a : ℕ) → xs ≡ front ++ rest → length front ≡ suc a → (k : ℕ) → k ≡ 8 * suc a
      → map (equation_of xs) (upwards k (8 * length rest)) ≡ rows_from K es (suc n) a (map at rest)
  unfolding upwards
  of_rest xs front [] a e l k q = refl
  of_rest xs front (x ∷ rest) a e l k q =
      let here : get_or xs (suc a) d ≡ x = ap (λ (ys : List X). get_or ys (suc a) d) e ∙ get_or_at front x rest d (suc a) l in
      of_next xs k (length rest)
      ∙ ap₂ ◌++◌
      (of_one xs (suc a) 0 8 k (omega arith) (omega arith) ∙ ap (λ (y : X). rows_at K es (suc n) a (at y) 0 8) here)
      (of_rest xs (front ++ (x ∷ [])) rest (suc a) (e ∙ sym (append_assoc front (x ∷ []) rest)) (omega (arith, length-append front (x ∷ [])))
      (k + 8) (omega arith))

  of_all : (xs : List X) → map (equation_of xs) (upwards 0 (8 * length xs)) ≡ kept_rows K es n (map at xs)
  unfolding upwards
  of_all [] = refl
  of_all (x ∷ rest) =
      of_next (x ∷ rest) 0 (length rest)
      ∙ ap₂ ◌++◌ (of_one (x ∷ rest) 0 0 8 0 (omega arith) (omega arith)) (of_rest (x ∷ rest) (x ∷ []) rest 0 refl refl 8 refl)

module _ {p : ℕ} (P : Prime p) (ks points work : List ℕ) where
  abbrev K : Field
  K = Modulo p P

  abbrev es : List Exponents
  es = map exponents ks

  abbrev at : ℕ → Kept (Modulo p P)
  at = kept_at P points work

  -- the row of an equation in plain numbers, of the point at the place i
  row_is : (i n m k : ℕ) (e : Row) → n / 8 ≡ suc m → k / 8 < n / 8 → get_or work (8 * i + k % 8) 0 ≤ p
      → IsEquationOf p ks points i work n k e
      → row_of p (length ks + m) e ≡ row K es (suc m) (next_column m (k / 8)) (at i) (k % 8)
  row_is i n m k e size within below one =
      let small : k % 8 < 8 = omega arith in
      let c : n / 8 - 1 ≡ m = omega arith in
      let zero_there : 3 * i ≡ 3 * i + 0 = omega arith in
      let u = get_or work (8 * i + k % 8) 0 in
      equation_row p P (get_or points (3 * i) 0) (get_or points (3 * i + 1) 0) (get_or points (3 * i + 2) 0) ks (k % 8) _ e ((p - u) % p) (length ks + m) (suc m)
      (next_column m (k / 8)) one (ap (λ (a : ℕ). length ks + next_column a (k / 8)) c) (next_fits m (k / 8) (omega arith)) (omega arith)
      (series p (image_at work i))
      (el_mod p (p - u) ∙ opposite_el p u (prime_positive P) below ∙ ap (λ (a : ℕ). neg (el p a)) (sym (part_at 8 i work (k % 8) small)))
      ∙ ap (λ (q : Point K.ring). row K es (suc m) (next_column m (k / 8)) (record { point = q; image = series p (image_at work i) }) (k % 8))
      (λ s. record {
        y = el p ((ap (λ (a : ℕ). get_or points a 0) zero_there ∙ sym (part_at 3 i points 0 (omega arith))) s);
        z = el p (sym (part_at 3 i points 1 (omega arith)) s);
        w = el p (sym (part_at 3 i points 2 (omega arith)) s);
      })

  -- all equations, where the array has these places
  pub system_rows : {places : List ℕ} {n m : ℕ} {t r : Table} (ps : List ℕ) → SystemReady p ks points places work n → n / 8 ≡ suc m → length ps ≡ suc m
      → ((a : ℕ) → a < suc m → get_or places a 0 ≡ get_or ps a 0) → (h : AddsFirst n p t ks points places work n r)
      → rows_of p (length ks + m) h.rows ≡ kept_rows (Modulo p P) (map exponents ks) m (map (kept_at P points work) ps)
  system_rows {places} {n} {m} ps ready size long same h =
      made_upwards (row_of p (length ks + m)) (equation_of K es at 0 m ps) no_row h.rows 0 (λ k l. one k (omega (arith, h.count)))
      ∙ ap (λ (a : ℕ). map (equation_of K es at 0 m ps) (upwards 0 a)) whole ∙ of_all K es at 0 m ps
    where
      whole : length h.rows ≡ 8 * length ps
      whole = omega (arith, h.count, ready.eights)

      one : (k : ℕ) → k < n → row_of p (length ks + m) (get_or h.rows k no_row) ≡ equation_of K es at 0 m ps (0 + k)
      one k l =
          let within : k / 8 < n / 8 = omega (arith, ready.eights) in
          let small : k % 8 < 8 = omega arith in
          let i = get_or places (k / 8) 0 in
          row_is i n m k (get_or h.rows k no_row) size within (omega (arith, ready.below (k / 8) (k % 8) within small)) (h.each k l)
          ∙ ap (λ (a : ℕ). row K es (suc m) (next_column m (k / 8)) (at a) (k % 8)) (same (k / 8) (omega arith))
          ∙ (let q : k ≡ 0 + k = omega arith in ap (equation_of K es at 0 m ps) q)

-- What the reader hands back, and what it leaves in the lent arrays, is determined by its contracts.
use Rattle.std.specs.Prelude.{ℕ, ◌≡◌, refl, Result, Ok, Err, List, [], ◌∷◌, length}
use Rattle.std.proofs.Common.{sym, ◌∙◌, ap, arith}
use Rattle.field.specs.declared.faults.Fault.{Fault}
use Rattle.field.specs.Refusal.{StandsFor}
use Rattle.field.specs.Faults.Laws.{stands_determined}
use Rattle.case_file.specs.declared.Counts.{Counts as ReadCounts}
use Rattle.case_file.specs.declared.Contents.{Contents as ReadContents}
use Rattle.case_file.specs.Format.{first_kind, second_kind, skeleton_kind, point_kind}
use Rattle.case_file.specs.Reading.{Reading, read_one, read}
use Rattle.case_file.specs.Handed.{Counts, Contents, counted, refused_counts, contained, refused_contents, list, in_array, array, counts, contents, Gives}

-- two records with lent arrays that are given for one reading are equal
abbrev pub Determined : Reading → Type 0
Determined o = (r r' : Counts) (f f' s s' k k' p p' : List ℕ) → Gives o r f s k p → Gives o r' f' s' k' p'
    → (r ≡ r') × (f ≡ f') × (s ≡ s') × (k ≡ k') × (p ≡ p')

gives_determined : (o : Reading) → Determined o
gives_determined o r r' f f' s s' k k' p p' g g' = ((cc), (cc), (cc), (cc), (cc))

pub read_one_into_determined : (bs : List ℕ) → Determined (read_one bs)
read_one_into_determined bs = gives_determined (read_one bs)

pub read_into_determined : (bs : List ℕ) → Determined (read bs)
read_into_determined bs = gives_determined (read bs)

pub read_determined : (bs : List ℕ) (r r' : Contents) → r ≡ contents (read bs) → r' ≡ contents (read bs) → r ≡ r'
read_determined bs r r' e e' = e ∙ sym e'

no_numbers : (l : List ℕ) → 0 ≡ length l → [] ≡ l
no_numbers [] e = refl
no_numbers (n ∷ l) e = absurd (omega arith)

-- where nothing is told but a fault, the contents are those of a refusal
pub refused_is : (o : Reading) {x : Fault} {f s k p : List ℕ} → Gives o (refused_counts x) f s k p → refused_contents x ≡ contents o
refused_is o g =
    let e = g.record_is in
    let first : [] ≡ list o first_kind = no_numbers _ (ap (λ (r : Counts). r.first) e) in
    let second : [] ≡ list o second_kind = no_numbers _ (ap (λ (r : Counts). r.second) e) in
    let skeleton : [] ≡ list o skeleton_kind = no_numbers _ (ap (λ (r : Counts). r.skeleton) e) in
    let points : [] ≡ list o point_kind = no_numbers _ (ap (λ (r : Counts). r.points) e) in
    λ i. record {
      fault = (e i).fault;
      modulus = (e i).modulus;
      first = in_array first_kind (first i);
      first_count = (e i).first;
      second = in_array second_kind (second i);
      second_count = (e i).second;
      skeleton = in_array skeleton_kind (skeleton i);
      skeleton_count = (e i).skeleton;
      points = in_array point_kind (points i);
      points_count = (e i).points;
    }

module _ (o : Reading) where
  -- a `Result` with lent arrays stands for what is given for the reading
  abbrev pub Told : Result ReadCounts Fault → (first second skeleton points : List ℕ) → Type 0
  Told r f s k p = StandsFor refused_counts counted (λ b. Gives o b f s k p) r

  told_record : (r : Result ReadCounts Fault) (f s k p : List ℕ) → Told r f s k p → StandsFor refused_counts counted (λ b. b ≡ counts o) r
  told_record (Ok x) f s k p g = g.record_is
  told_record (Err x) f s k p g = (g.0, g.1.record_is)

  told_arrays : (r : Result ReadCounts Fault) (f s k p : List ℕ) → Told r f s k p
      → (f ≡ array o first_kind) × (s ≡ array o second_kind) × (k ≡ array o skeleton_kind) × (p ≡ array o point_kind)
  told_arrays (Ok x) f s k p g = (g.first_is, g.second_is, g.skeleton_is, g.points_is)
  told_arrays (Err x) f s k p g = (g.1.first_is, g.1.second_is, g.1.skeleton_is, g.1.points_is)

  counts_known : (x y : ReadCounts) → counted x ≡ counted y → x ≡ y
  counts_known x y e = λ i. record {
    next = (e i).next;
    modulus = (e i).modulus;
    first = (e i).first;
    second = (e i).second;
    skeleton = (e i).skeleton;
    points = (e i).points;
  }

  one_result : (r r' : Result ReadCounts Fault) → StandsFor refused_counts counted (λ b. b ≡ counts o) r
      → StandsFor refused_counts counted (λ b. b ≡ counts o) r' → r ≡ r'
  one_result =
      stands_determined refused_counts counted (λ b. b ≡ counts o) (λ x y e. ap (λ (r : Counts). r.fault) e) counts_known
      (λ x y l e. omega (arith, l, ap (λ (r : Counts). r.fault.number) e)) (λ a b e e'. e ∙ sym e')

  -- two of them are equal, and so are the arrays
  abbrev pub ResultDetermined : Type 0
  ResultDetermined = (r r' : Result ReadCounts Fault) (f f' s s' k k' p p' : List ℕ) → Told r f s k p → Told r' f' s' k' p'
      → (r ≡ r') × (f ≡ f') × (s ≡ s') × (k ≡ k') × (p ≡ p')

  result_determined : ResultDetermined
  result_determined r r' f f' s s' k k' p p' t t' =
      let a = told_arrays r f s k p t in
      let a' = told_arrays r' f' s' k' p' t' in
      (one_result r r' (told_record r f s k p t) (told_record r' f' s' k' p' t'), a.0 ∙ sym a'.0, a.1 ∙ sym a'.1, a.2 ∙ sym a'.2, a.3 ∙ sym a'.3)

pub read_one_into_result_determined : (bs : List ℕ) → ResultDetermined (read_one bs)
read_one_into_result_determined bs = result_determined (read_one bs)

pub read_into_result_determined : (bs : List ℕ) → ResultDetermined (read bs)
read_into_result_determined bs = result_determined (read bs)

contents_known : (x y : ReadContents) → contained x ≡ contained y → x ≡ y
contents_known x y e = λ i. record {
  modulus = (e i).modulus;
  first = (e i).first;
  first_count = (e i).first_count;
  second = (e i).second;
  second_count = (e i).second_count;
  skeleton = (e i).skeleton;
  skeleton_count = (e i).skeleton_count;
  points = (e i).points;
  points_count = (e i).points_count;
}

pub read_result_determined : (bs : List ℕ) (r r' : Result ReadContents Fault)
    → StandsFor refused_contents contained (λ b. b ≡ contents (read bs)) r → StandsFor refused_contents contained (λ b. b ≡ contents (read bs)) r' → r ≡ r'
read_result_determined bs =
    stands_determined refused_contents contained (λ b. b ≡ contents (read bs)) (λ x y e. ap (λ (r : Contents). r.fault) e) contents_known
    (λ x y l e. omega (arith, l, ap (λ (r : Contents). r.fault.number) e)) (read_determined bs)

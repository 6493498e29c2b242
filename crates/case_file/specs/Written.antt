-- A case as a file of a format: its records in the order of their kinds. What a case must be for that.
use Rattle.std.specs.Prelude.{ℕ, zero, suc, ◌/◌, ◌%◌, ◌^◌, ◌≤◌, ◌<◌, ◌≡◌, List, [], ◌∷◌, ◌++◌, length}
use Rattle.case_file.specs.Format.{Format, base, first_byte, last_byte, order, widths, limit}
use Rattle.case_file.specs.Case.{Case}

-- the w bytes of a number, the low byte first
unfoldable pub bytes : ℕ → ℕ → List ℕ
bytes zero v = []
bytes (suc w) v = v % base ∷ bytes w (v / base)

-- numbers of the given widths
unfoldable pub packed : List ℕ → List ℕ → List ℕ
packed [] vs = []
packed (w ∷ ws) [] = []
packed (w ∷ ws) (v ∷ vs) = bytes w v ++ packed ws vs

-- each number of a list is below m
abbrev pub Below : ℕ → List ℕ → Type 0
Below m [] = Unit {0}
Below m (v ∷ vs) = (v < m) × Below m vs

-- the numbers are as many as the widths, and each has room in its width
abbrev pub Fits : List ℕ → List ℕ → Type 0
Fits [] [] = Unit {0}
Fits [] (v ∷ vs) = ⊥
Fits (w ∷ ws) [] = ⊥
Fits (w ∷ ws) (v ∷ vs) = (v < base ^ w) × Fits ws vs

abbrev pub EachFits : List ℕ → List (List ℕ) → Type 0
EachFits ws [] = Unit {0}
EachFits ws (ns ∷ rs) = Fits ws ns × EachFits ws rs

module _ (f : Format) where
  -- records of kind k
  unfoldable pub records : ℕ → List (List ℕ) → List ℕ
  records k [] = []
  records k (ns ∷ rs) = k ∷ packed (widths f k) ns ++ records k rs

  -- the records of a case of the kinds ks
  unfoldable pub in_order : List ℕ → Case → List ℕ
  in_order [] c = []
  in_order (k ∷ ks) c = records k (c k) ++ in_order ks c

  unfoldable pub file_of : Case → List ℕ
  file_of c = in_order (order f) c

  -- a case that a file can hold
  pub record Storable (c : Case) : Type 0 where
    pub within : (k : ℕ) → length (c k) ≤ limit f k
    pub bodies : (k : ℕ) → EachFits (widths f k) (c k)
    pub one_first : length (c (first_byte f)) ≡ 1
    pub one_last : length (c (last_byte f)) ≡ 1

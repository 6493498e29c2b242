-- The format of a case file as data: its kinds of records in their order. From it: the known kinds, the numbers of a body, the order of
-- kinds, the length of the fullest file, and how many bytes settle an answer. Then today's format.
use Rattle.std.specs.Prelude.{ℕ, zero, suc, ◌+◌, ◌*◌, max, ◌≡◌, Bool, true, false, ◌&&◌, List, [], ◌∷◌, ◌++◌, map, eqb, ltb, leb, length, take, drop}

pub record Kind : Type 0 where
  pub byte : ℕ
  -- how many bytes each number of a body has
  pub widths : List ℕ
  -- how many records there may be
  pub limit : ℕ

-- the kind that begins a file, the kinds between in their order, and the kind that ends a file
pub record Format : Type 0 where
  pub first : Kind
  pub between : List Kind
  pub last : Kind

abbrev pub kinds : Format → List Kind
kinds f = f.first ∷ f.between ++ f.last ∷ []

abbrev pub first_byte : Format → ℕ
first_byte f = f.first.byte

abbrev pub last_byte : Format → ℕ
last_byte f = f.last.byte

abbrev pub bytes_of : List Kind → List ℕ
bytes_of ks = map (λ (k : Kind). k.byte) ks

-- the kind bytes in their order
abbrev pub order : Format → List ℕ
order f = bytes_of (kinds f)

abbrev pub member : ℕ → List ℕ → Bool
member b [] = false
member b (k ∷ ks) = elim (eqb b k) [ true ↦ true | false ↦ member b ks ]

unfoldable pub known : Format → ℕ → Bool
known f b = member b (order f)

-- a kind byte that is not known has no numbers and no records
abbrev pub unknown : ℕ → Kind
unknown b = record { byte = b; widths = []; limit = 0 }

abbrev pub find : List Kind → ℕ → Kind
find [] b = unknown b
find (k ∷ ks) b = elim (eqb b k.byte) [ true ↦ k | false ↦ find ks b ]

-- the kind of a byte
unfoldable pub kind_of : Format → ℕ → Kind
kind_of f b = find (kinds f) b

abbrev pub widths : Format → ℕ → List ℕ
widths f b = (kind_of f b).widths

abbrev pub limit : Format → ℕ → ℕ
limit f b = (kind_of f b).limit

-- how many numbers a body holds
abbrev pub count : Format → ℕ → ℕ
count f b = length (widths f b)

abbrev pub sum : List ℕ → ℕ
sum [] = 0
sum (n ∷ ns) = n + sum ns

-- the length of a body
abbrev pub body : Format → ℕ → ℕ
body f b = sum (widths f b)

-- a record of kind k may stand after one of kind before; before is 0 at the start of the file
unfoldable pub follows : Format → ℕ → ℕ → Bool
follows f zero k = eqb k (first_byte f)
follows f (suc before) k = leb (suc before) k && ltb (first_byte f) k

-- how many values a byte has
abbrev pub base : ℕ
base = 256

-- a number from its bytes, the low byte first
unfoldable pub little : List ℕ → ℕ
little [] = 0
little (b ∷ bs) = b + base * little bs

-- the numbers of the given widths with which a list of bytes begins
abbrev pub numbers : List ℕ → List ℕ → List ℕ
numbers [] bs = []
numbers (w ∷ ws) bs = little (take w bs) ∷ numbers ws (drop w bs)

-- the numbers of a record of kind k whose body begins a list of bytes
abbrev pub content : Format → ℕ → List ℕ → List ℕ
content f k bs = numbers (widths f k) bs

-- the length of the fullest file
abbrev pub fullest : Format → ℕ
fullest f = sum (map (λ (k : ℕ). (1 + body f k) * limit f k) (order f))

abbrev pub greatest : List ℕ → ℕ
greatest [] = 0
greatest (n ∷ ns) = max n (greatest ns)

-- how many bytes settle an answer, whatever stands after them: the fullest file, and a record of the longest body
abbrev pub enough : Format → ℕ
enough f = fullest f + (1 + greatest (map (body f) (order f)))

-- each number is above the one before it, the first above n
abbrev pub rises : ℕ → List ℕ → Bool
rises n [] = true
rises n (k ∷ ks) = ltb n k && rises k ks

-- what the laws ask of a format: kind bytes rise from 1 on, and the first and the last kind stand once, the last without a body
pub record WellFormed (f : Format) : Type 0 where
  pub rising : rises 0 (order f) ≡ true
  pub one_first : limit f (first_byte f) ≡ 1
  pub one_last : limit f (last_byte f) ≡ 1
  pub bare_last : widths f (last_byte f) ≡ []

abbrev pub modulus_kind : ℕ
modulus_kind = 1

-- a term of the first list
abbrev pub first_kind : ℕ
first_kind = 2

-- a term of the second list
abbrev pub second_kind : ℕ
second_kind = 3

-- a key of the skeleton
abbrev pub skeleton_kind : ℕ
skeleton_kind = 4

abbrev pub point_kind : ℕ
point_kind = 5

abbrev pub end_kind : ℕ
end_kind = 6

-- the kinds of today's format
abbrev pub modulus : Kind
modulus = record { byte = modulus_kind; widths = 2 ∷ []; limit = 1 }

abbrev pub first_term : Kind
first_term = record { byte = first_kind; widths = 4 ∷ []; limit = 256 }

abbrev pub second_term : Kind
second_term = record { byte = second_kind; widths = 4 ∷ []; limit = 256 }

abbrev pub key : Kind
key = record { byte = skeleton_kind; widths = 2 ∷ []; limit = 32 }

abbrev pub point : Kind
point = record { byte = point_kind; widths = 2 ∷ 2 ∷ 2 ∷ []; limit = 32 }

abbrev pub end : Kind
end = record { byte = end_kind; widths = []; limit = 1 }

abbrev pub today : Format
today = record { first = modulus; between = first_term ∷ second_term ∷ key ∷ point ∷ []; last = end }

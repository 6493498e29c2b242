-- The refusal numbers by name: those of the table, the reader's and the writer's. 0 is no refusal. And the list that each is about.
use Rattle.std.specs.Prelude.{true, false, List, [], ◌∷◌, ℕ}
use Rattle.field.specs.Moduli.{among}

abbrev pub MODULUS : ℕ
MODULUS = 1

abbrev pub FIRST_COUNT : ℕ
FIRST_COUNT = 2

abbrev pub FIRST_TERM : ℕ
FIRST_TERM = 3

abbrev pub SECOND_COUNT : ℕ
SECOND_COUNT = 4

abbrev pub SECOND_TERM : ℕ
SECOND_TERM = 5

abbrev pub SKELETON_COUNT : ℕ
SKELETON_COUNT = 6

abbrev pub SKELETON_KEY : ℕ
SKELETON_KEY = 7

abbrev pub POINTS_COUNT : ℕ
POINTS_COUNT = 8

abbrev pub POINT_NUMBER : ℕ
POINT_NUMBER = 9

abbrev pub OUTPUT_SHORT : ℕ
OUTPUT_SHORT = 10

abbrev pub WORK_SHORT : ℕ
WORK_SHORT = 11

abbrev pub NO_GOOD_POINT : ℕ
NO_GOOD_POINT = 12

abbrev pub NO_SOLUTION : ℕ
NO_SOLUTION = 13

abbrev pub SEVERAL_SOLUTIONS : ℕ
SEVERAL_SOLUTIONS = 14

abbrev pub DOES_NOT_DIVIDE : ℕ
DOES_NOT_DIVIDE = 15

abbrev pub INVERSE_OF_ZERO : ℕ
INVERSE_OF_ZERO = 16

abbrev pub OPERAND : ℕ
OPERAND = 17

abbrev pub CEILING_REACHED : ℕ
CEILING_REACHED = 18

-- the reader's
abbrev pub KIND_UNKNOWN : ℕ
KIND_UNKNOWN = 20

abbrev pub BODY_CUT : ℕ
BODY_CUT = 21

abbrev pub ORDER : ℕ
ORDER = 22

abbrev pub AFTER_END : ℕ
AFTER_END = 23

abbrev pub NO_END : ℕ
NO_END = 24

abbrev pub TOO_MANY : ℕ
TOO_MANY = 25

-- the writer's: lists that no file holds, and a buffer that is too short
abbrev pub NOT_WRITABLE : ℕ
NOT_WRITABLE = 26

abbrev pub BUFFER_SHORT : ℕ
BUFFER_SHORT = 27

-- the lists of a call, by number
abbrev pub LIST_NONE : ℕ
LIST_NONE = 0

abbrev pub LIST_FIRST : ℕ
LIST_FIRST = 1

abbrev pub LIST_SECOND : ℕ
LIST_SECOND = 2

abbrev pub LIST_SKELETON : ℕ
LIST_SKELETON = 3

abbrev pub LIST_POINTS : ℕ
LIST_POINTS = 4

abbrev pub LIST_OUTPUT : ℕ
LIST_OUTPUT = 5

abbrev pub LIST_WORK : ℕ
LIST_WORK = 6

-- each list, and the refusal numbers that are about it
abbrev pub at_fault : List (ℕ × List ℕ)
at_fault =
    (LIST_FIRST, FIRST_COUNT ∷ FIRST_TERM ∷ [])
    ∷ (LIST_SECOND, SECOND_COUNT ∷ SECOND_TERM ∷ [])
    ∷ (LIST_SKELETON, SKELETON_COUNT ∷ SKELETON_KEY ∷ [])
    ∷ (LIST_POINTS, POINTS_COUNT ∷ POINT_NUMBER ∷ [])
    ∷ (LIST_OUTPUT, OUTPUT_SHORT ∷ [])
    ∷ (LIST_WORK, WORK_SHORT ∷ [])
    ∷ []

-- the first list with the number, or none
abbrev pub list_with : ℕ → List (ℕ × List ℕ) → ℕ
list_with number [] = LIST_NONE
list_with number (l ∷ lists) = elim (among number l.1) [ true ↦ l.0 | false ↦ list_with number lists ]

-- the list that a refusal number is about
unfoldable pub list_at_fault : ℕ → ℕ
list_at_fault number = list_with number at_fault

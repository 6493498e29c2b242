-- A choice by a test whose outcome is known.
use Rattle.std.specs.Prelude.{◌≡◌, refl}

pub decided_yes : {A X : Type 0} (d : Dec X) (x y : A) → X → elim d [ yes e ↦ x | no e ↦ y ] ≡ x
decided_yes (yes e) x y h = refl
decided_yes (no e) x y h = absurd (e h)

pub decided_no : {A X : Type 0} (d : Dec X) (x y : A) → ¬ X → elim d [ yes e ↦ x | no e ↦ y ] ≡ y
decided_no (yes e) x y h = absurd (h e)
decided_no (no e) x y h = refl

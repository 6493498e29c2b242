-- `lay` meets its contract: the three numbers of the fault are put first, and the rest behind them, up to the end.
use Rattle.std.proofs.Common.{◌≡◌, ap, ◌∙◌, List, ℕ, ◌∷◌, ◌++◌, ◌-◌, length, drop, arith, append-nil}
use Rattle.std.proofs.Math.ListN.{drop_of_length-le}
use borrow.Rule.Slice.PartMut.{put_mid}
use Rattle.handheld.proofs.lay.Goals as goal

behind_three : (n l p : ℕ) (d rest : List ℕ) → put_mid 3 (length (n ∷ l ∷ p ∷ d) - 3) (n ∷ l ∷ p ∷ d) rest ≡ n ∷ l ∷ p ∷ rest
behind_three n l p d rest =
    ap (λ (z : List ℕ). n ∷ l ∷ p ∷ (rest ++ z)) (drop_of_length-le d {i = length (n ∷ l ∷ p ∷ d) - 3} (omega arith)) ∙ ap (λ (z : List ℕ). n ∷ l ∷ p ∷ z) (append-nil rest)

pub returns : goal.returns
returns c = rw (c.copy_from_slice.ensures.after, c.copy_from_slice-2.ensures.after) (behind_three _ _ _ (drop 3 c.args.numbers.now) c.args.rest.now)

-- The terms that a service finds stand first in the output, whether it refuses or answers.
use Rattle.std.specs.Prelude.{ℕ, ◌≤◌, refl, List, length}
use Rattle.std.proofs.Common.{zero-le, arith, length-append, length-take}
use Rattle.std.proofs.lemmas.List.{length-map}
use Rattle.console.specs.Counts.{IsPrefixLen}
use Rattle.field.specs.Lent.{written}
use Rattle.poly.specs.Terms.{number_of, numbers_of}
use Rattle.poly.specs.QuotientCall.{QuotientCall, QuotientResult, Quotient, refused as refused_quotient, no_quotient, quotient}
use Rattle.divisor.specs.Rule.{all_bad, some_good}
use Rattle.divisor.specs.Candidate.{Call, Result, Candidate, refused, answered, prime}

pub counts_within : (n : ℕ) (list : List ℕ) → n ≤ length list → IsPrefixLen n list
counts_within n list h = (h, simp length-take (omega arith))

pub none_first : (list : List ℕ) → IsPrefixLen 0 list
none_first list = (zero-le, refl)

written_first : (ns out : List ℕ) → IsPrefixLen (length ns) (written ns out)
written_first ns out = counts_within (length ns) (written ns out) (simp length-append (omega arith))

pub quotient_first : (c : QuotientCall) (r : QuotientResult) → Quotient c r → IsPrefixLen r.found.terms r.output
quotient_first c r (refused_quotient f h) = none_first c.output
quotient_first c r (no_quotient h listed n) = none_first c.output
quotient_first c r (quotient h listed qs q) = written_first qs c.output

pub candidate_first : (c : Call) (r : Result) → Candidate c r → IsPrefixLen r.found.terms r.output
candidate_first c r (refused f h) = none_first c.output
candidate_first c r (answered h listed found G (all_bad b)) = none_first c.output
candidate_first c r (answered h listed found G (some_good d b u k kept s number G' steps v)) =
    rw (← length-map G (number_of c.modulus (prime c listed))) (written_first (numbers_of c.modulus (prime c listed) G) c.output)

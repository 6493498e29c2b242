-- `bench_examples::ask::candidate_in` meets its contract: the rooms are left as the service leaves them, and the terms that are printed stand first in the
-- output.
use Rattle.console.specs.Answer.TermsFirst.{candidate_first}
use Rattle.bench_examples.proofs.ask.candidate_in.Goals as goal

pub slice_bounds-print_found-end-2 : goal.slice_bounds-print_found-end-2
slice_bounds-print_found-end-2 g c = (candidate_first _ _ c.candidate-found.ensures).0

pub slice_bounds-print_found-end-3 : goal.slice_bounds-print_found-end-3
slice_bounds-print_found-end-3 g c = (candidate_first _ _ c.candidate-found.ensures).1

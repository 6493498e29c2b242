-- What is found of a file: a refusal and an answer meet the promise, and two results that meet it are equal if two answers of the service are.
use Rattle.std.specs.Prelude.{ℕ, ◌≡◌, ◌<◌, refl, List, get_or}
use Rattle.std.proofs.Common.{sym, ap, arith}
use Rattle.field.specs.declared.case.Case.{Case}
use Rattle.field.specs.declared.faults.Fault.{Fault}
use Rattle.case_file.specs.Format.{modulus_kind, first_kind, second_kind, skeleton_kind, point_kind}
use Rattle.case_file.specs.Reading.{Reading, read}
use Rattle.case_file.specs.declared.Contents.{Contents as ReadContents}
use Rattle.case_file.specs.Handed.{Contents, list, fault, contents, contained, refused_contents, Lends}
use Rattle.case_file.specs.Reader.Lent.{lends_read}
use Rattle.console.specs.Counts.{IsPrefixLen}
use Rattle.console.specs.OfFile.{OfFile, refused, asked, Answered}

-- a service that is asked of a modulus and four lists
module _ {Found : Type 0} (unread : Fault → Found) (Asked : (p : ℕ) (first second skeleton points : List ℕ) → Found → Type 0)
    (terms : Found → ℕ) (output : Found → List ℕ) (bytes : List ℕ) where
  abbrev pub Promise : Found → Type 0
  Promise =
      Answered unread (λ (o : Reading). Asked (get_or (list o modulus_kind) 0 0) (list o first_kind) (list o second_kind) (list o skeleton_kind)
      (list o point_kind)) terms output bytes

  -- The promise is met by the reader's refusal, and by the service's answer to the case that was read, where the terms stand first in the output of each
  -- refusal and of each answer.
  module _ (none_first : (f : Fault) → IsPrefixLen (terms (unread f)) (output (unread f)))
      (some_first : (p : ℕ) (first second skeleton points : List ℕ) (r : Found) → Asked p first second skeleton points r
      → IsPrefixLen (terms r) (output r)) where
    pub by_refusal : (f : Fault) → 0 < f.number → refused_contents f ≡ contents (read bytes) → Promise (unread f)
    by_refusal f l e =
        let is : f ≡ fault (read bytes) = ap (λ (c : Contents). c.fault) e in
        record {
          is = rw is (refused (λ z. omega (arith, l, ap (λ (g : Fault). g.number) is)));
          terms_first = none_first f;
        }

    pub by_answer : {c : ReadContents} {k : Case} → contained c ≡ contents (read bytes) → Lends c k
        → (r : Found) → Asked k.modulus k.first.now k.second.now k.skeleton.now k.points.now r → Promise r
    by_answer e l r a =
        let q = lends_read bytes e l in
        record {
          is = asked (sym (ap (λ (c : Contents). c.fault.number) e)) r (rw (q.modulus, q.first, q.second, q.skeleton, q.points) at a);
          terms_first = some_first _ _ _ _ _ r a;
        }

module _ {Found : Type 0} (unread : Fault → Found) (Answer : Reading → Found → Type 0) (bytes : List ℕ) where
  pub of_file_determined : ((o : Reading) (r q : Found) → Answer o r → Answer o q → r ≡ q)
      → (r q : Found) → OfFile unread Answer bytes r → OfFile unread Answer bytes q → r ≡ q
  of_file_determined one r q (refused n) (refused m) = refl
  of_file_determined one r q (refused n) (asked z f a) = absurd (n z)
  of_file_determined one r q (asked z f a) (refused n) = absurd (n z)
  of_file_determined one r q (asked z f a) (asked y g b) = one (read bytes) f g a b

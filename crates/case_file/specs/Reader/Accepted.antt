-- A file is accepted exactly if it is the written form of a case that can be stored.
use Rattle.std.specs.Prelude.{ℕ, ◌≡◌, refl, ◌↔◌, length}
use Rattle.std.proofs.Math.Path.{ap}
use Rattle.std.proofs.Common.{◌∙◌, le_refl, arith, drop_of_length-le}
use mathlib.Core.List.{List, [], ◌++◌, append-nil}
use Rattle.case_file.specs.Format.{Format, WellFormed, base}
use Rattle.case_file.specs.Case.{Case}
use Rattle.case_file.specs.Reading.{Reading, whole, refused, read_one_in, read_in}
use Rattle.case_file.specs.Handed.{fault}
use Rattle.case_file.specs.Written.{file_of, Below, Storable}
use Rattle.case_file.specs.Reader.Alone.{Numbered, read_numbered, stays_whole, alone_whole}
use Rattle.case_file.specs.Reader.ReadBack.{written_of_read_one}
use Rattle.case_file.specs.Reader.RoundTrip.{read_one_of_written}

module _ (f : Format) where
  -- the file is the case c, written
  pub record Holds (bs : List ℕ) (c : Case) (n : ℕ) : Type 0 where
    pub storable : Storable f c
    pub same : bs ≡ file_of f c
    pub all : n ≡ length bs

module _ (f : Format) (w : WellFormed f) where
  pub read_of_written : (c : Case) → Storable f c → read_in f (file_of f c) ≡ whole c (length (file_of f c))
  unfolding read_in
  read_of_written c s =
      let e : read_one_in f (file_of f c) ≡ whole c (length (file_of f c)) = rw append-nil at (read_one_of_written f w c s []) in
      rw (e, read_in) (stays_whole (length (file_of f c)) (whole c (length (file_of f c))) (le_refl (length (file_of f c))))

  module _ (bs : List ℕ) (c : Case) (n : ℕ) where
    accepted_holds : Below base bs → read_in f bs ≡ whole c n → Holds f bs c n
    unfolding read_in
    accepted_holds b e =
        let a = alone_whole (length bs) (read_one_in f bs) c n e in
        let r = written_of_read_one f w bs c n b a.0 in
        record {
          storable = r.3;
          same = r.1 ∙ ap (λ (l : List ℕ). file_of f c ++ l) (drop_of_length-le r.0 {i = 0} (omega (arith, r.2, a.1))) ∙ append-nil (file_of f c);
          all = omega (arith, r.2);
        }

    pub accepted : Below base bs → (read_in f bs ≡ whole c n) ↔ Holds f bs c n
    accepted b = (accepted_holds b, λ h. rw (h.all, h.same) (read_of_written c h.storable))

  -- number 0, exactly if the file is the written form of a case that can be stored
  pub accepted_written : (bs : List ℕ) → Below base bs → ((fault (read_in f bs)).number ≡ 0) ↔ ((c : Case) × Storable f c × (bs ≡ file_of f c))
  accepted_written bs b = (λ z. to (read_in f bs) refl (read_numbered f bs) z, from)
    where
      to : (o : Reading) → read_in f bs ≡ o → Numbered o → (fault o).number ≡ 0 → (c : Case) × Storable f c × (bs ≡ file_of f c)
      to (refused e i) q m z = absurd (m z)
      to (whole c n) q m z = let h = accepted_holds bs c n b q in (c, h.storable, h.same)

      from : (c : Case) × Storable f c × (bs ≡ file_of f c) → (fault (read_in f bs)).number ≡ 0
      from h = rw (h.2, read_of_written h.0 h.1)

-- `write_case` puts the parts of the file one after another: at each place what is left of the file is known (`Putting`), and there is room for it.
use Rattle.std.proofs.Common.{refl, ℕ, List, [], ◌∷◌, arith}
use Rattle.field.specs.Loops.Putting.{Puts, Putting, putting_start, putting_next, putting_room, putting_end}
use Rattle.case_file.specs.Format.{modulus_kind, end_kind, kind_of}
use Rattle.case_file.specs.Written.{bytes}
use Rattle.case_file.specs.WriteCall.{WriteCall, write_call_of, file}
use Rattle.case_file.specs.Writer.Turns.{first_part, second_part, skeleton_part, points_part, file_parts}
use Rattle.case_file.specs.Writer.Turns.{from_first, from_second, from_skeleton, from_points}
use Rattle.case_file.proofs.writer.write_case.Goals as goal

-- the file is put from the first place on, `left` is still to be put, at the place k
abbrev At : WriteCall → ℕ → List ℕ → List ℕ → Type 0
At z k now left = Putting (file z) 0 k z.buffer now left

module _ (z : WriteCall) {k : ℕ} {a : List ℕ} (m : Puts (modulus_kind ∷ bytes 2 z.modulus) 0 k z.buffer a) where
  put_modulus : At z k a (from_first z)
  put_modulus = putting_next putting_start (file_parts z) m

  module _ {k₁ : ℕ} {b : List ℕ} (f : Puts (first_part z) k k₁ a b) where
    put_first : At z k₁ b (from_second z)
    put_first = putting_next put_modulus refl f

    module _ {k₂ : ℕ} {d : List ℕ} (s : Puts (second_part z) k₁ k₂ b d) where
      put_second : At z k₂ d (from_skeleton z)
      put_second = putting_next put_first refl s

      module _ {k₃ : ℕ} {e : List ℕ} (l : Puts (skeleton_part z) k₂ k₃ d e) where
        put_skeleton : At z k₃ e (from_points z)
        put_skeleton = putting_next put_second refl l

        put_points : {k₄ : ℕ} {g : List ℕ} → Puts (points_part z) k₃ k₄ e g → At z k₄ g (end_kind ∷ [])
        put_points p = putting_next put_skeleton refl p

pub write_record-after_modulus-requires : goal.write_record-after_modulus-requires
unfolding bytes
write_record-after_modulus-requires c =
    let z : WriteCall = write_call_of c.args.case.now c.args.buffer.now in
    putting_room {n = 0} {before = z.buffer} putting_start (modulus_kind ∷ bytes 2 z.modulus) (from_first z) (file_parts z) (omega (arith, c.requires))

pub write_numbers-after_first-requires : goal.write_numbers-after_first-requires
unfolding kind_of
write_numbers-after_first-requires c =
    let z : WriteCall = write_call_of c.args.case.now c.args.buffer.now in
    let p = put_modulus z c.write_record-after_modulus.ensures in
    record { of_width = refl; room = putting_room p (first_part z) (from_second z) refl (omega (arith, c.requires)) }

pub write_numbers-after_second-requires : goal.write_numbers-after_second-requires
unfolding kind_of
write_numbers-after_second-requires c =
    let z : WriteCall = write_call_of c.args.case.now c.args.buffer.now in
    let p = put_first z c.write_record-after_modulus.ensures c.write_numbers-after_first.ensures in
    record { of_width = refl; room = putting_room p (second_part z) (from_skeleton z) refl (omega (arith, c.requires)) }

pub write_numbers-after_skeleton-requires : goal.write_numbers-after_skeleton-requires
unfolding kind_of
write_numbers-after_skeleton-requires c =
    let z : WriteCall = write_call_of c.args.case.now c.args.buffer.now in
    let p = put_second z c.write_record-after_modulus.ensures c.write_numbers-after_first.ensures c.write_numbers-after_second.ensures in
    record { of_width = refl; room = putting_room p (skeleton_part z) (from_points z) refl (omega (arith, c.requires)) }

pub write_points-end-requires : goal.write_points-end-requires
write_points-end-requires c =
    let z : WriteCall = write_call_of c.args.case.now c.args.buffer.now in
    let p =
    put_skeleton z c.write_record-after_modulus.ensures c.write_numbers-after_first.ensures c.write_numbers-after_second.ensures
    c.write_numbers-after_skeleton.ensures
    in
    putting_room p (points_part z) (end_kind ∷ []) refl (omega (arith, c.requires))

pub put-requires : goal.put-requires
put-requires c =
    let z : WriteCall = write_call_of c.args.case.now c.args.buffer.now in
    let p =
    put_points z c.write_record-after_modulus.ensures c.write_numbers-after_first.ensures c.write_numbers-after_second.ensures
    c.write_numbers-after_skeleton.ensures c.write_points-end.ensures
    in
    putting_room p (end_kind ∷ []) [] refl (omega (arith, c.requires))

pub returns : goal.returns
returns c =
    let z : WriteCall = write_call_of c.args.case.now c.args.buffer.now in
    let p =
    put_points z c.write_record-after_modulus.ensures c.write_numbers-after_first.ensures c.write_numbers-after_second.ensures
    c.write_numbers-after_skeleton.ensures c.write_points-end.ensures
    in
    putting_end (putting_next p {vs = end_kind ∷ []} refl (record { stored = c.put.ensures.after; counted = c.put.ensures.count })) refl

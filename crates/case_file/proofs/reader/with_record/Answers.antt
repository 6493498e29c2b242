-- `with_record` adds a record to its list: in each arm of the match the kind is known, and the law of that kind says the rest.
use Rattle.std.proofs.Common.{ap, arith}
use Rattle.case_file.specs.Kinds.{kind_byte}
use Rattle.case_file.specs.Reader.Adding.{modulus_whole, first_place, second_place, key_place, point_place}
use Rattle.case_file.specs.Reader.Adding.{modulus_added, first_added, second_added, key_added, point_added}
use Rattle.case_file.proofs.reader.with_record.Goals as goal

pub number2-requires : goal.number2-requires
number2-requires c = modulus_whole c.requires (ap kind_byte c.in-Modulus.is)

pub number4-requires : goal.number4-requires
number4-requires c = (first_place c.requires (ap kind_byte c.in-First.is)).whole

pub put-requires : goal.put-requires
put-requires c = rw c.told-first (first_place c.requires (ap kind_byte c.in-First.is)).room

pub number4-requires-in-Second : goal.number4-requires-in-Second
number4-requires-in-Second c = (second_place c.requires (ap kind_byte c.in-Second.is)).whole

pub put-requires-in-Second : goal.put-requires-in-Second
put-requires-in-Second c = rw c.told-second (second_place c.requires (ap kind_byte c.in-Second.is)).room

pub number2-requires-in-Skeleton : goal.number2-requires-in-Skeleton
number2-requires-in-Skeleton c = (key_place c.requires (ap kind_byte c.in-Skeleton.is)).whole

pub put-requires-in-Skeleton : goal.put-requires-in-Skeleton
put-requires-in-Skeleton c = rw c.told-skeleton (key_place c.requires (ap kind_byte c.in-Skeleton.is)).room

-- the three numbers of a point are in its body
pub number2-y-requires : goal.number2-y-requires
number2-y-requires c = omega (arith, (point_place c.requires (ap kind_byte c.in-Point.is)).whole)

pub number2-z-requires : goal.number2-z-requires
number2-z-requires c = omega (arith, (point_place c.requires (ap kind_byte c.in-Point.is)).whole)

pub number2-w-requires : goal.number2-w-requires
number2-w-requires c = omega (arith, (point_place c.requires (ap kind_byte c.in-Point.is)).whole)

pub put-requires-in-Point : goal.put-requires-in-Point
put-requires-in-Point c = rw c.told-points (point_place c.requires (ap kind_byte c.in-Point.is)).room

pub returns-in-Modulus : goal.returns-in-Modulus
returns-in-Modulus c = modulus_added c.requires (ap kind_byte c.in-Modulus.is) c.number2.ensures

pub returns-in-First : goal.returns-in-First
returns-in-First c =
    first_added c.requires (ap kind_byte c.in-First.is) c.number4.ensures (record { stored = c.put.ensures.after; counted = c.put.ensures.count })

pub returns-in-Second : goal.returns-in-Second
returns-in-Second c =
    second_added c.requires (ap kind_byte c.in-Second.is) c.number4-in-Second.ensures
    (record { stored = c.put-in-Second.ensures.after; counted = c.put-in-Second.ensures.count })

pub returns-in-Skeleton : goal.returns-in-Skeleton
returns-in-Skeleton c =
    key_added c.requires (ap kind_byte c.in-Skeleton.is) c.number2-in-Skeleton.ensures
    (record { stored = c.put-in-Skeleton.ensures.after; counted = c.put-in-Skeleton.ensures.count })

pub returns-in-Point : goal.returns-in-Point
returns-in-Point c =
    point_added c.requires (ap kind_byte c.in-Point.is) c.number2-y.ensures c.number2-z.ensures c.number2-w.ensures
    (record { stored = c.put-in-Point.ensures.after; counted = c.put-in-Point.ensures.count })

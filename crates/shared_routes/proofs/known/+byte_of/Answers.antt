use Rattle.std.proofs.Common.{arith, length-drop}
use Rattle.std.proofs.lemmas.List.{length-take}
use Rattle.mqtt_topic.proofs.SlotLaws.{below, bool_byte_small}
use Rattle.shared_routes.proofs.known.+byte_of.Goals as goal

pub overflow_mul-result : goal.overflow_mul-result
overflow_mul-result t c =
    omega (arith, below _ _ c.byte_of.ensures.bound (simp (length-take, length-drop) (omega arith)))

pub overflow_add-result : goal.overflow_add-result
overflow_add-result t c =
    omega (arith, below _ _ c.byte_of.ensures.bound (simp (length-take, length-drop) (omega arith)), c.from.ensures, bool_byte_small c.matches.result)

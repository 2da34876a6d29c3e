-- Copies of one message.
use Rattle.std.proofs.Common.{◌≡◌, ◌++◌, List, Option, IfSome, All}
use Rattle.std.specs.Option.{option_to_list}
use Rattle.std.proofs.lemmas.List.Elements.{All-pop}
use Rattle.group_jobs.specs.declared.message.Message.{Message}

-- the last of them is a copy, and so are the others
pub alike_popped : (message : Message) (xs ys : List Message) (r : Option Message) → xs ≡ ys ++ option_to_list r
    → All (λ copy. copy ≡ message) xs → All (λ copy. copy ≡ message) ys × IfSome r (λ copy. copy ≡ message)
alike_popped message xs ys r = All-pop (λ copy. copy ≡ message) xs ys r

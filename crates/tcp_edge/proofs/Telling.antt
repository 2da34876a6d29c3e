-- What one more event tells.
use Rattle.std.proofs.Common.{◌≡◌, ℕ, ◌+◌, ◌<◌, Bool, List, [], ◌∷◌, ◌++◌, length, take, get_or, Option, Some, None, refl, sym, ap, ◌∙◌}
use Rattle.std.proofs.lemmas.List.{take_more}
use Rattle.std.specs.List.{cons_option, filter_map}
use Rattle.mio.specs.declared.event.event.Event.{Event}
use Rattle.tcp_edge.specs.Reactors.{readies, tell}

in_front : {X : Type 0} (o : Option X) (xs ys : List X) → cons_option o xs ++ ys ≡ cons_option o (xs ++ ys)
in_front None xs ys = refl
in_front (Some x) xs ys = refl

told_both : {X Y : Type 0} (h : X → Option Y) (xs ys : List X) → filter_map h (xs ++ ys) ≡ filter_map h xs ++ filter_map h ys
told_both h [] ys = refl
told_both h (x ∷ xs) ys = ap (cons_option (h x)) (told_both h xs ys) ∙ sym (in_front (h x) (filter_map h xs) (filter_map h ys))

pub one_more_told : (seats : List Bool) (events : List Event) (i : ℕ) (d : Event) → i < length events
    → readies seats (take (i + 1) events) ≡ readies seats (take i events) ++ cons_option (tell seats (get_or events i d)) []
one_more_told seats events i d less =
    ap (readies seats) (take_more events i d less) ∙ told_both (tell seats) (take i events) (get_or events i d ∷ [])

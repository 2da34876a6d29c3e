-- No call of a connection closes a group: the broker is as open after it as it was before.
use Rattle.std.proofs.Common.{◌≡◌, ℕ, zero, suc, Bool, not, ◌&&◌, List, [], ◌∷◌, Option, Some, None, Result, Ok, Err, slice_get, slice_set, sym, ap, ◌∙◌, ⊎_elim}
use Rattle.std.specs.List.{list_all}
use Rattle.std.proofs.lemmas.Option.{same_Some}
use Rattle.group_jobs.specs.Stamps.{Held}
use Rattle.group_jobs.specs.declared.fate.Fate.{Fate}
use Rattle.group_jobs.specs.declared.fate.Fate.TheVariants as fate
use Rattle.group_jobs.specs.declared.message.Message.{Message}
use Rattle.group_jobs.specs.declared.stamp.Stamp.{Stamp}
use Rattle.local_group.specs.Groups.{Group, Settles}
use Rattle.conn_supply.specs.declared.supply.NoMemory.{NoMemory}
use Rattle.conn_supply.specs.declared.supply.OfferRefusal.{OfferRefusal}
use Rattle.local_broker.specs.Groups.{IsOffered, HandsOut, HandsOutAgain, IsOutAt, IsSettled, IsGivenBack, LetsGo}

-- no group of a list is closed
abbrev pub all_open : List Group → Bool
all_open groups = list_all (λ (group : Group). not group.state.closed) groups

-- one of them changes, and is closed where it was
pub open_still : (groups : List Group) (slot : ℕ) (before after : Group) → slice_get groups slot ≡ Some before → after.state.closed ≡ before.state.closed
    → all_open (slice_set groups slot after) ≡ all_open groups
open_still [] slot before after there same = absurd (cc)
open_still (group ∷ groups) zero before after there same =
    ap (λ (closed : Bool). not closed && all_open groups) (same ∙ ap (λ (g : Group). g.state.closed) (sym (same_Some group before there)))
open_still (group ∷ groups) (suc slot) before after there same = ap (λ (rest : Bool). not group.state.closed && rest) (open_still groups slot before after there same)

abbrev Marked : Group → Group → Type 0
Marked old new = new.state.closed ≡ old.state.closed

same_group : (old new : Group) → new ≡ old → Marked old new
same_group old new same = ap (λ (g : Group). g.state.closed) same

pub offered : (answer : Result Stamp OfferRefusal) (old new : Group) (port : ℕ) (message : Message) → IsOffered old port message answer new → new.state.closed ≡ old.state.closed
offered (Ok stamp) old new port message does = does.event.step.made.2
offered (Err refusal) old new port message does = same_group old new does.same

pub handed_out : (answer : Result (Option Held) NoMemory) (old new : Group) (place : ℕ) → HandsOut old place answer new → new.state.closed ≡ old.state.closed
handed_out (Ok (Some envelope)) old new place does = does.4.step.made.2
handed_out (Ok None) old new place does = same_group old new does.1
handed_out (Err error) old new place does = same_group old new does.1

pub handed_out_again : (answer : Result (Option Held) NoMemory) (old new : Group) (place : ℕ) → HandsOutAgain old place answer new → new.state.closed ≡ old.state.closed
handed_out_again (Ok (Some envelope)) old new place does = does.4.step.made.2
handed_out_again (Ok None) old new place does = same_group old new does.1
handed_out_again (Err error) old new place does = same_group old new does.1

ended : (how : Fate) (old new : Group) (envelope : Held) → Settles old envelope how new → Marked old new
ended fate.Acknowledged old new envelope settles = settles.event.step.made.2
ended fate.Refused old new envelope settles = settles.event.step.made.2
ended fate.Discarded old new envelope settles = settles.event.step.made.2

pub settled : (old new : Group) (place : ℕ) (envelope : Held) (how : Fate) → IsSettled old place envelope how new → new.state.closed ≡ old.state.closed
settled old new place envelope how does =
    ⊎_elim (λ (is : IsOutAt old place envelope × Settles old envelope how new). ended how old new envelope is.1) (λ (is : LetsGo old place envelope new). same_group old new is.same) does

pub given_back : (old new : Group) (place : ℕ) (envelope : Held) → IsGivenBack old place envelope new → new.state.closed ≡ old.state.closed
given_back old new place envelope does =
    ⊎_elim (λ is. is.1.event.step.made.2) (λ (is : LetsGo old place envelope new). same_group old new is.same) does

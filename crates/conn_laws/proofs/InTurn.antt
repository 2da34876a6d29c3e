-- Calls by which a place is handed messages in turn, each as the call before left it.
use Rattle.std.proofs.Common.{◌≡◌, List, [], ◌∷◌, ◌++◌, filter_map, Option, None, refl, sym, subst}
use Rattle.std.specs.List.{AllByRecursion}
use Rattle.group_jobs.specs.Stamps.{Held}
use Rattle.group_jobs.specs.declared.fate.Fate.{Fate}
use Rattle.group_jobs.specs.declared.fate.Fate.TheVariants.{Discarded}
use Rattle.conn_supply.specs.SupplyCalls.{SupplyCall}
use Rattle.conn_supply.specs.SupplyCalls.SupplyCall.{Settle}
use Rattle.conn_laws.specs.Calls.{offer_of, match_of, settlement_of, hand_out_of, AsksForMessage}
use Rattle.conn_laws.specs.Places.{places_brought, places_taken, KeepsInTurn}
use Rattle.conn_laws.specs.Transcripts.{IsAside}
use Rattle.conn_laws.proofs.KeptPlaces.{kept_by_none, kept_by_one}
use Rattle.conn_laws.proofs.Aside.{Aside, all_of_both}
use Rattle.conn_laws.proofs.Aside as asides

both_in_turn : {P : Type 0} (before between after : List P) (these those : List (SupplyCall P)) → KeepsInTurn before these between → KeepsInTurn between those after → KeepsInTurn before (these ++ those) after
both_in_turn before between after [] those same last = subst (λ places. KeepsInTurn places those after) same last
both_in_turn before between after (this ∷ these) those first last = (first.0, first.1, both_in_turn (places_brought this ++ first.0) between after these those first.2 last)

module _ {S P : Type 0} (call : S → SupplyCall P → S → Type 0) where
  -- calls that hand these out, and settle those, in turn; before them there were these places, and after them there are those
  pub record InTurn (given : List (P × Held)) (thrown : List (Held × Fate)) (before after : List P) (old new : S) : Type 0 where
    pub calls : Aside call given thrown before after old new
    pub in_turn : KeepsInTurn before calls.supply_calls after
    pub only : AllByRecursion AsksForMessage calls.supply_calls

  -- the places after them, said otherwise
  pub becomes : {given : List (P × Held)} {thrown : List (Held × Fate)} {before after after' : List P} {old new : S} → after' ≡ after → InTurn given thrown before after old new → InTurn given thrown before after' old new
  becomes {given} {thrown} {before} {after} {after'} {old} {new} same calls = subst (λ places. InTurn given thrown before places old new) (sym same) calls

  pub still : {before after : List P} (old new : S) → after ≡ before → new ≡ old → InTurn [] [] before after old new
  still {before} old new same_places same =
      becomes same_places (record {
        calls = record { supply_calls = []; made = same; aside = tt; match = refl; offers = refl; settles = refl; hands = refl; places = kept_by_none before };
        in_turn = refl;
        only = tt;
      })

  -- one call, by which this is handed out, if anything is; there are others behind its places
  pub hand : (others : List P) (hand_out : Option (P × Held)) (old new : S) (supply_call : SupplyCall P) → call old supply_call new → AsksForMessage supply_call → IsAside supply_call → match_of supply_call ≡ None → offer_of supply_call ≡ None
      → settlement_of supply_call ≡ None → hand_out_of supply_call ≡ hand_out
      → InTurn (filter_map (λ (o : Option (P × Held)). o) (hand_out ∷ [])) [] (places_taken supply_call ++ others) (places_brought supply_call ++ others) old new
  hand others hand_out old new supply_call called asks is_aside no_match no_offer no_settlement hands = record {
    calls = asides.beside call others (asides.hand call hand_out old new supply_call called is_aside no_match no_offer no_settlement hands);
    in_turn = (others, refl, refl);
    only = (asks, tt);
  }

  pub one : (others : List P) (old new : S) (supply_call : SupplyCall P) → call old supply_call new → AsksForMessage supply_call → IsAside supply_call → match_of supply_call ≡ None → offer_of supply_call ≡ None
      → settlement_of supply_call ≡ None → hand_out_of supply_call ≡ None → InTurn [] [] (places_taken supply_call ++ others) (places_brought supply_call ++ others) old new
  one others old new supply_call called asks is_aside no_match no_offer no_settlement no_hand_out =
      hand others None old new supply_call called asks is_aside no_match no_offer no_settlement no_hand_out

  -- one call, by which this message is discarded
  pub discard : (others : List P) (place place' : P) (envelope : Held) (old new : S) → call old (Settle place place' envelope Discarded) new → InTurn [] ((envelope, Discarded) ∷ []) (place ∷ others) (place' ∷ others) old new
  discard others place place' envelope old new called =
      let alone : Aside call [] ((envelope, Discarded) ∷ []) (place ∷ []) (place' ∷ []) old new = record {
        supply_calls = Settle place place' envelope Discarded ∷ [];
        made = (new, called, refl);
        aside = (tt, tt);
        match = refl;
        offers = refl;
        settles = refl;
        hands = refl;
        places = kept_by_one (Settle place place' envelope Discarded);
      } in
      record { calls = asides.beside call others alone; in_turn = (others, refl, refl); only = (refl, tt) }

  pub after : {thrown discards : List (Held × Fate)} {before between behind : List P} (given more : List (P × Held)) (old mid new : S) → InTurn given thrown before between old mid → InTurn more discards between behind mid new
      → InTurn (given ++ more) (thrown ++ discards) before behind old new
  after {thrown} {discards} {before} {between} {behind} given more old mid new these those =
      record {
        calls = asides.after call given more old mid new these.calls those.calls;
        in_turn = both_in_turn before between behind these.calls.supply_calls those.calls.supply_calls these.in_turn those.in_turn;
        only = all_of_both AsksForMessage these.calls.supply_calls those.calls.supply_calls these.only those.only;
      }

  pub behind : {before between after : List P} (old mid new : S) → InTurn [] [] before between old mid → InTurn [] [] between after mid new → InTurn [] [] before after old new
  behind old mid new these those = after [] [] old mid new these those

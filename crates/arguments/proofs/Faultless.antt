-- Where clap finds no fault in words, no step of its walk over them has one.
use Rattle.std.proofs.Common.{◌≡◌, Bool, cond, true, false, List, [], ◌∷◌, Option, None, refl, is_some, ap, sym, ◌∙◌}
use Rattle.clap.specs.Words.{Text}
use Rattle.clap.specs.Walk.{Held, Names, Walk, finished, settled, walk, walk_from, word_met}
use Rattle.clap.specs.Simple.{Shape}
use Rattle.clap.specs.Kinds.{Kinds, or_else}
use Rattle.clap.specs.Faults.{check_fault, defaults_fault, level_fault, settle_fault, step_fault, turn_fault, walk_fault, word_fault}
use Rattle.clap.specs.declared.error.kind.ErrorKind.{ErrorKind}

pub neither : (a b : Kinds) → or_else a b ≡ [] → (a ≡ []) × (b ≡ [])
neither [] b e = (refl, e)
neither (k ∷ ks) b e = cc

-- a choice of which one has a fault goes the other way
pub not_chosen : (b : Bool) (kind : ErrorKind) (kinds : Kinds) → cond b (kind ∷ kinds) [] ≡ [] → b ≡ false
not_chosen true kind kinds e = cc
not_chosen false kind kinds e = refl

pub chosen : (b : Bool) (kind : ErrorKind) (kinds : Kinds) → cond b [] (kind ∷ kinds) ≡ [] → b ≡ true
chosen true kind kinds e = refl
chosen false kind kinds e = cc

-- the parts of one level
pub level_parts : (s : Shape) (names : Names) (h : Held) (words : List Text) (has : Bool) (below : Kinds) → level_fault s names h words has below ≡ []
    → (walk_fault s names (walk_from h) words ≡ []) × (below ≡ [])
    × (settle_fault s.rules s.args_override_self (walk s.rules names h words).held ≡ [])
    × (check_fault s (finished s.rules (walk s.rules names h words).held) has ≡ [])
level_parts s names h words has below e =
    let end = (walk s.rules names h words).held in
    let p = neither (walk_fault s names (walk_from h) words) _ e in
    let q = neither below _ p.1 in
    let r = neither (settle_fault s.rules s.args_override_self end) _ q.1 in
    let t = neither (defaults_fault (settled s.rules end).rows s.rules) _ r.1 in
    (p.0, q.0, r.0, t.1)

-- the parts of a turn, where no subcommand was met before
pub turn_parts : (s : Shape) (names : Names) (w : Walk) (word : Text) → w.stopped ≡ None → turn_fault s names w word ≡ []
    → (word_fault s names w.is_trailing w.waiting word w.held ≡ [])
    × (step_fault s w.position (word_met s.rules names w.is_trailing w.waiting w.position word w.held).0
    (word_met s.rules names w.is_trailing w.waiting w.position word w.held).1 ≡ [])
turn_parts s names w word unmet e =
    let fault : Kinds = or_else (word_fault s names w.is_trailing w.waiting word w.held)
    (step_fault s w.position (word_met s.rules names w.is_trailing w.waiting w.position word w.held).0
    (word_met s.rules names w.is_trailing w.waiting w.position word w.held).1) in
    neither _ _ (sym (ap (λ (o : Option (Text × List Text)). cond (is_some o) [] fault) unmet) ∙ e)

-- Legal transcripts: at each prefix, and one after the other.
use Rattle.std.proofs.Common.{◌≡◌, ℕ, ◌≤◌, true, false, List, [], ◌∷◌, ◌++◌, length, Option, Some, None, IfSome, refl, sym, ap, subst, arith}
use Rattle.std.proofs.lemmas.Bool.{false≢true}
use Rattle.member_window.specs.Identifiers.{identifiers_without}
use Rattle.member_window.specs.Marks.{Mark, Up, Sent, Acked, Down, WindowState, window_down, window_after, window_after_all, held}
use Rattle.member_window.specs.Transcript.{IsWithinQuota, MayCome, IsLegalFrom, IsLegal, IsLegalAtEachPrefix}
use Rattle.member_window.proofs.Lists.{length-without}

-- at each prefix
prefix_quota : {T : Type 0} (s : WindowState T) (prefix rest : List (Mark T)) → IsLegalFrom s (prefix ++ rest) → IsWithinQuota (window_after_all s prefix)
prefix_quota s [] [] h = h
prefix_quota s [] (mark ∷ rest) h = h.0
prefix_quota s (mark ∷ prefix) rest h = prefix_quota (window_after s mark) prefix rest h.2

prefix_next : {T : Type 0} (s : WindowState T) (prefix : List (Mark T)) (mark : Mark T) (rest : List (Mark T)) → IsLegalFrom s (prefix ++ mark ∷ rest) → MayCome (window_after_all s prefix) mark
prefix_next s [] mark rest h = h.1
prefix_next s (first ∷ prefix) mark rest h = prefix_next (window_after s first) prefix mark rest h.2

from_prefixes : {T : Type 0} (s : WindowState T) (marks : List (Mark T)) → ((prefix rest : List (Mark T)) → prefix ++ rest ≡ marks → IsWithinQuota (window_after_all s prefix)) → ((prefix : List (Mark T)) (mark : Mark T) (rest : List (Mark T)) → prefix ++ mark ∷ rest ≡ marks → MayCome (window_after_all s prefix) mark) → IsLegalFrom s marks
from_prefixes s [] quota next = quota [] [] refl
from_prefixes s (mark ∷ marks) quota next = (
  quota [] (mark ∷ marks) refl,
  next [] mark marks refl,
  from_prefixes (window_after s mark) marks (λ prefix rest e. quota (mark ∷ prefix) rest (ap (λ ms. mark ∷ ms) e)) (λ prefix other rest e. next (mark ∷ prefix) other rest (ap (λ ms. mark ∷ ms) e)),
)

pub at_each_prefix : {T : Type 0} (entries : List (ℕ × T)) (marks : List (Mark T)) → IsLegal entries marks → IsLegalAtEachPrefix entries marks
at_each_prefix entries marks h =
    record {
      quota = λ prefix rest e. prefix_quota (window_down entries) prefix rest (subst (IsLegalFrom (window_down entries)) (sym e) h);
      next = λ prefix mark rest e. prefix_next (window_down entries) prefix mark rest (subst (IsLegalFrom (window_down entries)) (sym e) h);
    }

pub legal_by_prefixes : {T : Type 0} (entries : List (ℕ × T)) (marks : List (Mark T)) → IsLegalAtEachPrefix entries marks → IsLegal entries marks
legal_by_prefixes entries marks h = from_prefixes (window_down entries) marks h.quota h.next

-- one legal transcript after another
pub legal_append : {T : Type 0} (s : WindowState T) (before behind : List (Mark T)) → IsLegalFrom s before → IsLegalFrom (window_after_all s before) behind → IsLegalFrom s (before ++ behind)
legal_append s [] behind h more = more
legal_append s (mark ∷ before) behind h more = (h.0, h.1, legal_append (window_after s mark) before behind h.2 more)

pub legal_within : {T : Type 0} (s : WindowState T) (marks : List (Mark T)) → IsLegalFrom s marks → IsWithinQuota (window_after_all s marks)
legal_within s [] h = h
legal_within s (mark ∷ marks) h = legal_within (window_after s mark) marks h.2

-- what is legal while no connection is up is legal where one is: it goes on with an `Up` of its own
fewer_owed : (quota : Option ℕ) (k : ℕ) (owed : List ℕ) → IfSome quota (λ q. length owed ≤ q) → IfSome quota (λ q. length (identifiers_without k owed) ≤ q)
fewer_owed None k owed h = h
fewer_owed (Some q) k owed h = let fewer = length-without k owed in omega arith

legal_while_up : {T : Type 0} (s : WindowState T) (marks : List (Mark T)) → IsWithinQuota s → IsLegalFrom (window_down s.held) marks → IsLegalFrom s marks
legal_while_up s [] within h = within
legal_while_up s (Up receive_maximum ∷ marks) within h = (within, h.1, h.2)
legal_while_up s (Sent identifier false item ∷ marks) within h = absurd (false≢true h.1.up)
legal_while_up s (Sent identifier true item ∷ marks) within h = absurd (false≢true h.1.up)
legal_while_up s (Acked identifier code ∷ marks) within h =
    (within, h.1, legal_while_up (window_after s (Acked identifier code)) marks (fewer_owed s.quota identifier s.owed within) h.2)
legal_while_up s (Down ∷ marks) within h = (within, h.1, h.2)

pub legal_goes_on : {T : Type 0} (entries : List (ℕ × T)) (before behind : List (Mark T)) → IsLegal entries before → IsLegal (held entries before) behind → IsLegal entries (before ++ behind)
legal_goes_on entries before behind h more =
    let s = window_after_all (window_down entries) before in
    legal_append (window_down entries) before behind h (legal_while_up s behind (legal_within (window_down entries) before h) more)

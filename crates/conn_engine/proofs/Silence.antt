-- When a connection is late, and when its client is overdue.
use Rattle.std.proofs.Common.{◌≡◌, ℕ, ◌+◌, ◌-◌, ◌*◌, ◌^◌, ◌<◌, ◌≤◌, ◌↔◌, ◌&&◌, nat_le, true, Option, Some, None, MatchOption, sym, ap, subst, ◌∙◌, arith}
use Rattle.std.proofs.lemmas.Bool.{leb-true, le-leb, lt-ltb}
use Rattle.conn_rules.specs.KeepAlive.{is_overdue, is_late}

pub late : (opened now : ℕ) → (is_late (now - opened) ≡ true) ↔ (opened + 10000 ≤ now)
late opened now = (λ is. let h = leb-true 10000 (now - opened) is in omega arith, λ past. le-leb 10000 (now - opened) (omega arith))

pub overdue : (keep_alive heard longest now : ℕ) → 0 < keep_alive → longest ≡ 1500 * keep_alive → (is_overdue keep_alive (now - heard) ≡ true) ↔ (heard + longest ≤ now)
overdue keep_alive heard longest now some is =
    let same : is_overdue keep_alive (now - heard) ≡ nat_le (1500 * keep_alive) (now - heard) =
    ap (λ b. b && nat_le (1500 * keep_alive) (now - heard)) (lt-ltb 0 keep_alive some) in (
      λ due. let h = leb-true (1500 * keep_alive) (now - heard) (sym same ∙ due) in omega arith,
      λ past. same ∙ le-leb (1500 * keep_alive) (now - heard) (omega arith),
    )

-- the sum of two numbers, where it is below 2^64
pub at_sum : (IsDue : ℕ → Type 0) (end : ℕ) → ((now : ℕ) → IsDue now ↔ (end ≤ now)) → (sum : Option ℕ) → MatchOption sum (2 ^ 64 ≤ end) (λ s. s ≡ end)
    → MatchOption sum ((now : ℕ) → now < 2 ^ 64 → ¬ IsDue now) (λ deadline. (now : ℕ) → IsDue now ↔ (deadline ≤ now))
at_sum IsDue end tells None over = λ now fits is. let past = (tells now).0 is in absurd (omega arith)
at_sum IsDue end tells (Some s) same = λ now. subst (λ n. IsDue now ↔ (n ≤ now)) (sym same) (tells now)

-- One session is retired, and then others.
use Rattle.std.proofs.Common.{◌≡◌, ℕ, zero, suc, ◌-◌, ◌<◌, Bool, true, false, Some, inl, inr, subst, arith}
use Rattle.group_jobs.specs.Stamps.{Held}
use Rattle.session_desk.specs.declared.session.Session.{Session}
use Rattle.conn_supply.specs.SupplyCalls.{SupplyCall}
use Rattle.conn_supply.specs.SupplyCalls.SupplyCall.{Sweep}
use Rattle.conn_engine.specs.Ending.{Retires, Sweeps}

module _ {S P : Type 0} (call : S → SupplyCall P → S → Type 0) where
  pub one_and_more : (old mid after new : S) (session : Session Held P) (now most : ℕ) (gone : Bool) → 0 < most
      → call old (Sweep now (Some session)) mid → Retires call mid session gone after → gone ≡ true
      → Sweeps call after now (most - 1) new → Sweeps call old now most new
  one_and_more old mid after new session now zero gone some called retired is rest = absurd (omega arith)
  one_and_more old mid after new session now (suc most) gone some called retired is rest =
      let less : suc most - 1 ≡ most = omega arith in
      inr (session, mid, after, called, inr (subst (λ b. Retires call mid session b after) is retired, subst (λ n. Sweeps call after now n new) less rest))

  pub one_alone : (old mid new : S) (session : Session Held P) (now most : ℕ) (gone : Bool) → 0 < most
      → call old (Sweep now (Some session)) mid → Retires call mid session gone new → gone ≡ false → Sweeps call old now most new
  one_alone old mid new session now zero gone some called retired is = absurd (omega arith)
  one_alone old mid new session now (suc most) gone some called retired is =
      inr (session, mid, new, called, inl (subst (λ b. Retires call mid session b new) is retired))

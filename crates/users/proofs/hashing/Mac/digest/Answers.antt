use Rattle.std.proofs.Common.{◌++◌, sym, ap, ◌∙◌, subst, append_assoc}
use Rattle.sha2.specs.Hashers.{Holds512}
use Rattle.sha2.specs.Sha512.{sha512}
use Rattle.users.specs.Hashing.{hmac_sha512, key_block, masked}
use Rattle.users.proofs.hashing.Mac.digest.Goals as goal

pub returns : goal.returns
unfolding hmac_sha512
returns c = λ key keyed.
    let inside = masked 0x36 (key_block key) in
    let outside = masked 0x5C (key_block key) in
    let first = c.update.ensures inside (subst (λ h. Holds512 h inside) (sym c.copy_of-inner.ensures) keyed.inner) in
    let digest = c.finalize.ensures _ (c.update-2.ensures _ first) ∙ ap sha512 (append_assoc inside c.args.first.now c.args.last.now) in
    let last = c.update-3.ensures outside (subst (λ h. Holds512 h outside) (sym c.copy_of-outer.ensures) keyed.outer) in
    c.finalize-2.ensures _ last ∙ ap (λ m. sha512 (outside ++ m)) digest

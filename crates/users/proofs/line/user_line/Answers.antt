use Rattle.std.proofs.Common.{◌≡◌, ◌∙◌, ap, sym, string_bytes}
use Rattle.std.proofs.lemmas.Result.{IfOk-weaker}
use Rattle.std.specs.Fmt.{decimal}
use Rattle.users.specs.Lines.{base64_of, user_line}
use Rattle.users.proofs.Made.{pieces, user_line_is}
use Rattle.users.proofs.line.user_line.Goals as goal

pub returns : goal.returns
returns c =
    let name = c.args.name.now in
    let digits = decimal c.args.iterations in
    let salted = ap (λ salt. pieces name digits salt (string_bytes c.in_ok-hash.hash)) c.in_ok-salt.ensures in
    let hashed = ap (pieces name digits (base64_of c.args.salt.now)) (c.in_ok-hash.ensures ∙ ap base64_of c.pbkdf2.ensures) in
    IfOk-weaker c.format.result _ (λ line. string_bytes line ≡ user_line name c.args.password.now c.args.salt.now c.args.iterations)
    (λ line e. e ∙ salted ∙ hashed ∙ sym (user_line_is name c.args.password.now c.args.salt.now c.args.iterations)) c.format.ensures.ok

use Rattle.std.proofs.Common.{◌∙◌, ap, ap₂, ◌≡◌, codes, true}
use Rattle.std.proofs.lemmas.Result.{IfOk-weaker}
use Rattle.clap.specs.Words.{App, app_of, new_app, with_subcommand}
use Rattle.clap.specs.Simple.{Shape, app_of_fields, on_top}
use Rattle.clap.proofs.SimpleLemmas.{plain_fields}
use Rattle.arguments.specs.CommandLine.{command_named, password_command, serve_command, share_broker}
use Rattle.arguments.proofs.command.command.Goals as goal

pub returns : goal.returns
returns c =
    let new_is : app_of c.about.result ≡ new_app (codes "share_broker") = ap app_of_fields c.about.ensures ∙ c.new.ensures.app in
    let with_version : app_of c.version.result ≡ on_top (λ (top : Shape). record top { has_version = true }) (new_app (codes "share_broker")) =
    ap app_of_fields c.version.ensures ∙ ap (on_top (λ (top : Shape). record top { has_version = true })) new_is in
    let broker : app_of c.subcommand_required.result ≡ share_broker =
    ap app_of_fields c.subcommand_required.ensures ∙ ap (on_top (λ (top : Shape). record top { subcommand_required = true })) with_version in
    let solo : app_of c.in_ok-solo.solo ≡ command_named (codes "solo") = c.in_ok-solo.ensures in
    let drive : app_of c.in_ok-drive.drive ≡ command_named (codes "drive") = c.in_ok-drive.ensures in
    let serve : app_of c.in_ok-serve.serve ≡ serve_command = c.in_ok-serve.ensures in
    let password : app_of c.in_ok-password.password ≡ password_command = c.in_ok-password.ensures in
    let own = (plain_fields c.in_ok-solo.solo (ap (λ (a : App). a.top.is_plain) solo)).globals in
    let own_too = (plain_fields c.in_ok-drive.drive (ap (λ (a : App). a.top.is_plain) drive)).globals in
    let own_third = (plain_fields c.in_ok-serve.serve (ap (λ (a : App). a.top.is_plain) serve)).globals in
    let own_last = (plain_fields c.in_ok-password.password (ap (λ (a : App). a.top.is_plain) password)).globals in
    let first = c.in_ok-subcommand.ensures.shape own ∙ ap₂ with_subcommand broker (ap (λ (a : App). a.top) solo) in
    let second = c.in_ok-subcommand-2.ensures.shape own_too ∙ ap₂ with_subcommand first (ap (λ (a : App). a.top) drive) in
    let third = c.in_ok-subcommand-3.ensures.shape own_third ∙ ap₂ with_subcommand second (ap (λ (a : App). a.top) serve) in
    IfOk-weaker c.subcommand-4.result _ _ (λ command h. h.shape own_last ∙ ap₂ with_subcommand third (ap (λ (a : App). a.top) password)) c.subcommand-4.ensures

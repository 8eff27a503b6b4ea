use Rattle.std.proofs.Common.{◌≡◌, ◌∙◌, ap, ap₂, codes, true}
use Rattle.clap.specs.Words.{app_of, new_app, with_rule}
use Rattle.clap.specs.Simple.{app_of_fields, on_top}
use Rattle.scm_monitor.proofs.command_line.command.Goals as goal

-- src/command_line.rt
pub returns-clause-described : goal.returns-clause-described
returns-clause-described c =
    let plain : app_of c.no_binary_name.result ≡ on_top (λ top. record top { no_binary_name = true }) (new_app (codes "scm_monitor")) =
    ap app_of_fields c.no_binary_name.ensures ∙ ap (on_top (λ top. record top { no_binary_name = true })) c.new.ensures.app in
    let begun : app_of c.after_help.result ≡ on_top (λ top. record top { no_binary_name = true; disable_help_flag = true; has_version = true }) (new_app (codes "scm_monitor")) =
    ap app_of_fields c.after_help.ensures ∙ ap app_of_fields c.about.ensures ∙ ap app_of_fields c.version.ensures
    ∙ ap (on_top (λ top. record top { has_version = true })) (ap app_of_fields c.disable_help_flag.ensures
    ∙ ap (on_top (λ top. record top { disable_help_flag = true })) plain) in
    let first = c.in_ok-arg.ensures.shape c.workers_option.ensures.local ∙ ap₂ with_rule begun c.workers_option.ensures.rule in
    let second = c.in_ok-arg-2.ensures.shape c.each_option.ensures.local ∙ ap₂ with_rule first c.each_option.ensures.rule in
    let third = c.in_ok-arg-3.ensures.shape c.check_option.ensures.local ∙ ap₂ with_rule second c.check_option.ensures.rule in
    let fourth = c.in_ok-arg-4.ensures.shape c.journal_option.ensures.local ∙ ap₂ with_rule third c.journal_option.ensures.rule in
    c.in_ok-arg-5.ensures.shape c.help_option.ensures.local ∙ ap₂ with_rule fourth c.help_option.ensures.rule

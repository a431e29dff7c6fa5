use Rattle.std.proofs.Common.{List, ap, map, string_bytes, ℕ, ◌∙◌, ◌∷◌}
use Rattle.bk_ask.proofs.FirstWords.{no_words, none_along, none_at_all, none_by, none_with, some_along, some_by, split_words}
use Rattle.bk_ask.proofs.asked.Goals as goal

pub returns-in-list-clause-none : goal.returns-in-list-clause-none
returns-in-list-clause-none c =
    none_by c.listing.result c.args.words.now c.command-item.result c.as_str.result.now _ c.in-len1-up.len_at_least c.command-item.is
    c.as_str.ensures.value c.in-list.is c.listing.ensures.none

pub returns-in-trial-clause-none : goal.returns-in-trial-clause-none
returns-in-trial-clause-none c =
    none_by c.trial.result c.args.words.now c.command-item.result c.as_str.result.now _ c.in-len1-up.len_at_least c.command-item.is
    c.as_str.ensures.value c.in-trial.is c.trial.ensures.none

pub returns-in-verify-clause-none : goal.returns-in-verify-clause-none
returns-in-verify-clause-none c =
    none_by c.verify.result c.args.words.now c.command-item.result c.as_str.result.now _ c.in-len1-up.len_at_least c.command-item.is
    c.as_str.ensures.value c.in-verify.is c.verify.ensures.none

pub returns-in-pair-clause-none : goal.returns-in-pair-clause-none
returns-in-pair-clause-none c =
    none_by c.pair.result c.args.words.now c.command-item.result c.as_str.result.now _ c.in-len1-up.len_at_least c.command-item.is
    c.as_str.ensures.value c.in-pair.is c.pair.ensures.none

pub returns-in_default-as_str-clause-none : goal.returns-in_default-as_str-clause-none
returns-in_default-as_str-clause-none c =
    let words = c.args.words.now in
    none_along c.command_alone.result (map string_bytes words) _
    (split_words words c.command-item.result c.as_str.result.now c.in-len1-up.len_at_least c.command-item.is c.as_str.ensures.value
    ∙ ap (λ (rest : List (List ℕ)). c.as_str.result.now ∷ rest) (no_words _ c.if-is_empty.ensures))
    c.command_alone.ensures.none

pub returns-in-list-clause-some : goal.returns-in-list-clause-some
returns-in-list-clause-some c =
    some_by c.listing.result c.args.words.now c.command-item.result c.as_str.result.now _ c.in-len1-up.len_at_least c.command-item.is
    c.as_str.ensures.value c.in-list.is c.listing.ensures.some

pub returns-in-trial-clause-some : goal.returns-in-trial-clause-some
returns-in-trial-clause-some c =
    some_by c.trial.result c.args.words.now c.command-item.result c.as_str.result.now _ c.in-len1-up.len_at_least c.command-item.is
    c.as_str.ensures.value c.in-trial.is c.trial.ensures.some

pub returns-in-verify-clause-some : goal.returns-in-verify-clause-some
returns-in-verify-clause-some c =
    some_by c.verify.result c.args.words.now c.command-item.result c.as_str.result.now _ c.in-len1-up.len_at_least c.command-item.is
    c.as_str.ensures.value c.in-verify.is c.verify.ensures.some

pub returns-in-pair-clause-some : goal.returns-in-pair-clause-some
returns-in-pair-clause-some c =
    some_by c.pair.result c.args.words.now c.command-item.result c.as_str.result.now _ c.in-len1-up.len_at_least c.command-item.is
    c.as_str.ensures.value c.in-pair.is c.pair.ensures.some

pub returns-in_default-as_str-clause-some : goal.returns-in_default-as_str-clause-some
returns-in_default-as_str-clause-some c =
    let words = c.args.words.now in
    some_along c.command_alone.result (map string_bytes words) _
    (split_words words c.command-item.result c.as_str.result.now c.in-len1-up.len_at_least c.command-item.is c.as_str.ensures.value
    ∙ ap (λ (rest : List (List ℕ)). c.as_str.result.now ∷ rest) (no_words _ c.if-is_empty.ensures))
    c.command_alone.ensures.some

pub returns-in_default-clause-none : goal.returns-in_default-clause-none
returns-in_default-clause-none c = none_at_all c.args.words.now c.in_default.len_below

pub command_alone-requires : goal.command_alone-requires
command_alone-requires c = c.in_default-as_str.not-pair

pub returns-in_default-2-clause-none : goal.returns-in_default-2-clause-none
returns-in_default-2-clause-none c =
    none_with c.args.words.now c.command-item.result c.as_str.result.now c.in-len1-up.len_at_least c.command-item.is c.as_str.ensures.value
    (record {
      no_list = c.in_default-as_str.not-list;
      no_trial = c.in_default-as_str.not-trial;
      no_verify = c.in_default-as_str.not-verify;
      no_pair = c.in_default-as_str.not-pair;
    })
    c.if-is_empty.ensures

use Rattle.std.proofs.Common.{◌≡◌, All, rules, string_bytes, subst}
use Rattle.std.proofs.lemmas.List.{take_all}
use Rattle.std.proofs.lemmas.List.Elements.{All-nil}
use Rattle.command_parts.specs.ReadBack.{IsReadBack}
use Rattle.analysis_commands.specs.Lists.{lists_of}
use Rattle.analysis_commands.specs.ChainTexts.{bases_text}
use Rattle.analysis_commands.proofs.BasesPushing.{bases_more, read_more}
use Rattle.analysis_commands.proofs.bases.bases_text.Goals as goal

pub loop-place-init : goal.loop-place-init
loop-place-init c = record { text = search rules; read = All-nil _ }

pub loop-place-preserved : goal.loop-place-preserved
loop-place-preserved c = record {
  text = bases_more c.args.names.now c.args.bases.now c.loop-place.place c.index-bases-place.result
      c.loop-place-test.true c.index-bases-place.is (string_bytes c.loop-place.text) _
      c.loop-place.invariant.text (search rules);
  read = read_more c.args.names.now c.args.bases.now c.loop-place.place c.index-bases-place.result
      c.loop-place-test.true c.index-bases-place.is c.loop-place.invariant.read
      (search rules);
}

pub returns-clause-text : goal.returns-clause-text
returns-clause-text c =
    subst (λ bs. string_bytes c.loop-place.text ≡ bases_text c.args.names.now 0 (lists_of bs))
    (take_all c.loop-place.place c.args.bases.now c.loop-place-test.false)
    c.loop-place.invariant.text

pub returns-clause-read_back : goal.returns-clause-read_back
returns-clause-read_back c =
    subst (λ bs. All (IsReadBack c.args.names.now) (lists_of bs))
    (take_all c.loop-place.place c.args.bases.now c.loop-place-test.false)
    c.loop-place.invariant.read

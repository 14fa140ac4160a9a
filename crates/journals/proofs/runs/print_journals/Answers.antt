use Rattle.std.proofs.Common.{inr, refl, subst}
use Rattle.std.specs.List.{AllByRecursion}
use Rattle.journal.specs.Texts.{AreReadAgain, journals_text}
use Rattle.journals.specs.Runs.{PrintsText}
use Rattle.journals.proofs.Accepted.{quiet_accepted}
use Rattle.journals.proofs.Nothing.{none_more}
use Rattle.journals.proofs.Texts.{text_alone}
use Rattle.journals.proofs.runs.print_journals.Goals as goal

pub returns-in-Ok : goal.returns-in-Ok
returns-in-Ok g c =
    let replayed = c.replay_quietly-replayed in
    let held = g.K.Sink.held c.args.sink.now in
    let held' = g.K.Sink.held c.print_text.new.sink in
    let text = text_alone _ _ _ _ _ c.deref.ensures.value c.in-Ok.ensures.text c.new-text.ensures.items c.as_slice.ensures.journals in
    let printed = subst (PrintsText c.print_text.result replayed.result.status held held') text c.print_text.ensures in
    let again = subst (AllByRecursion AreReadAgain) c.as_slice.ensures.journals c.in-Ok.ensures.again in record {
      prints = record {
        replayed = replayed.result.status;
        handed = replayed.result.journals;
        heard = replayed.result.heard;
        replays = replayed.ensures;
        prints = printed;
        accepted = quiet_accepted held held' _ replayed.ensures again printed;
      };
    }

pub returns : goal.returns
returns g c =
    let replayed = c.replay_quietly-replayed in record {
      prints = record {
        replayed = replayed.result.status;
        handed = replayed.result.journals;
        heard = replayed.result.heard;
        replays = replayed.ensures;
        prints = inr (inr refl, none_more (g.K.Sink.held c.args.sink.now) (journals_text replayed.result.journals));
        accepted = λ sunk wanted. absurd (wanted refl);
      };
    }

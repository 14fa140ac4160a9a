use Rattle.std.proofs.Common.{inr, refl, ◌∙◌, subst}
use Rattle.journals.specs.Asks.{asks_text}
use Rattle.journals.specs.Runs.{PrintsText}
use Rattle.journals.proofs.Nothing.{none_more}
use Rattle.journals.proofs.runs.print_asks.Goals as goal

pub returns-in-Ok : goal.returns-in-Ok
returns-in-Ok g c =
    let replayed = c.replay_quietly-replayed in record {
      prints = record {
        replayed = replayed.result.status;
        handed = replayed.result.journals;
        heard = replayed.result.heard;
        replays = replayed.ensures;
        prints = subst (PrintsText c.print_text.result replayed.result.status (g.K.Sink.held c.args.sink.now) (g.K.Sink.held c.print_text.new.sink))
            (c.deref.ensures.value ∙ c.in-Ok.ensures.text) c.print_text.ensures;
      };
    }

pub returns : goal.returns
returns g c =
    let replayed = c.replay_quietly-replayed in record {
      prints = record {
        replayed = replayed.result.status;
        handed = replayed.result.journals;
        heard = replayed.result.heard;
        replays = replayed.ensures;
        prints = inr (inr refl, none_more (g.K.Sink.held c.args.sink.now) (asks_text replayed.result.heard));
      };
    }

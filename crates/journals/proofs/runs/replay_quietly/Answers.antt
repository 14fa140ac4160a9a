use Rattle.journals.proofs.runs.replay_quietly.Goals as goal

pub returns : goal.returns
returns g c =
    let told = c.replay.ensures.replay in record {
      made = told.0;
      shelf' = c.replay.result.shelf;
      replay = told.1;
      hands_out = told.2;
    }

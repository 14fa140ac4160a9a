-- The words of the proofs: definitions and lemmas of std, of the crates below and of this one, each under one name.
unfoldable pub use Rattle.report_text.specs.Lines.{call_line}
pub use Rattle.std.specs.List.{Contains, count_by, sum_by, flat_map, range_with_len}
pub use Rattle.std.specs.Option.{option_map}
pub use Rattle.std.specs.Prelude.{slice_set}
pub use Rattle.std.specs.Result.{IsErrAnd}
pub use Rattle.std.proofs.Common.{◌≡◌, ◌*◌, max, rules, ℕ, ◌%◌, ◌<◌, ◌==◌, Bool, true, false, All, inl, inr, List, [], ◌∷◌, ◌++◌, Option, None, Some, IfSome, length, get_or, refl, sym, ◌∙◌, ap, subst, arith, nat_lt, append-nil, append_assoc, cond, ltb, take, ◌≢◌, ◌≤◌, Result, Ok, Err, is_some, IfErr, OnOk, OnErr, length-append, ◌+◌, map, IfOk, replicate, ◌⊎◌, eqb, ◌^◌, not, min, drop, ◌||◌, suc, zero, length-set, is_none, set, get_or-set_same, ◌-◌}
pub use Rattle.std.proofs.KnownBytes.{Appends-trans, Consumes-trans, Appends-nil, Consumes-nil}
pub use Rattle.std.proofs.Math.Seq.{take-append-add, take-length}
pub use Rattle.std.proofs.lemmas.Bool.{eqb-true, ltb-true}
pub use Rattle.std.proofs.lemmas.Bool.Decides.{nat_tests}
pub use Rattle.std.proofs.lemmas.Grind.{flat_map-append, common_steps}
pub use Rattle.std.proofs.lemmas.List.{get_or_default, get_or_read, drop_more, take-append-drop, get_or-replicate, length-take-le, get_or-set_other, length-replicate, set-get_or, flat_map_more, get_or_past}
pub use Rattle.std.proofs.lemmas.List.Elements.{All-filter, All-head, All-tail, All-nil}
pub use Rattle.std.proofs.lemmas.List.Quantifiers.{position-Some}
pub use Rattle.std.proofs.lemmas.List.Sums.{sum_by-cons, sum_by-le, sum_by-set, fold_push}
pub use Rattle.memchr.specs.Find.{NoneBefore, Nowhere as PassesNowhere, Passes, is_byte}
pub use Rattle.call_plan.proofs.Bounds.{chosen_stage}
pub use Rattle.call_plan.proofs.Credits.{begin-is_call, settle_place}
pub use Rattle.call_plan.proofs.Memaligns.{memaligns-are_aligned}
pub use Rattle.call_plan.proofs.Reasons.{NextWhy, begin_why, settles_why, step_why}
pub use Rattle.call_plan.specs.Aligned.{IsCacheAligned}
pub use Rattle.call_plan.specs.Calls.{CallFacts, moment_of}
pub use Rattle.call_plan.specs.Causes.{AllCame, Came}
pub use Rattle.call_plan.specs.Desks.{desk_fed}
pub use Rattle.call_plan.specs.Laws.{Moves}
pub use Rattle.call_plan.specs.Needs.{IsPointOrEnd, Goes}
pub use Rattle.call_plan.specs.Reads.{taken_next, ended_by, aimed, published_next}
pub use Rattle.call_plan.specs.Runs.{Moment, after, begin, begin_memalign, begin_stage, run, settle, step_next, begin_get, is_alignment, page_align, small_hit}
pub use Rattle.call_plan.specs.Stages.{Point, Turns, Next, Go, InArena, NextBatch, NotLive, Ends, Nowhere, Asks, Tells}
pub use Rattle.call_plan.specs.Table.{step, chunks_for, commit, is_marked, op_at, starved, told, trim, turn_replied, Want, WantAsk, WantTurn, want}
pub use Rattle.call_plan.specs.declared.needs.Answered.{Answered}
pub use Rattle.call_plan.specs.declared.needs.Answered.TheVariants.{NotHeld}
pub use Rattle.call_plan.specs.declared.needs.Given.TheVariants.{Region}
pub use Rattle.call_plan.specs.Items.{Item, Replied, Told as ToldItem}
pub use Rattle.call_plan.specs.declared.needs.Request.{Request}
pub use Rattle.call_plan.specs.declared.needs.Request.TheVariants.{Memalign}
pub use Rattle.call_plan.specs.declared.points.AskPoint.{AskPoint}
pub use Rattle.call_plan.specs.declared.points.AskPoint.TheVariants.{Skipping, Trimming, Growing, SplittingGrown, GrowingExactly, SplittingExact, Committing}
pub use Rattle.call_plan.specs.declared.points.TurnPoint.{TurnPoint}
pub use Rattle.call_plan.specs.declared.points.TurnPoint.TheVariants.{Owning, Filling, Looking, Landing}
pub use Rattle.call_plan.specs.declared.points.Wish.{Wish}
pub use Rattle.edge_io.specs.Bytes.{Appends, AppendsPrefix, Consumes, Keeps, Rose, IsAtEnd}
pub use Rattle.heap_core.proofs.Clients.{known_is, sound_at, found_for, settled_is}
pub use Rattle.sits.proofs.Hands.{had_counts}
pub use Rattle.sits.proofs.Settling.{Owns, count_in, counts_low, has_owns}
pub use Rattle.heap_core.proofs.Sitting.{opening-sits, holders-publish}
pub use Rattle.heap_core.proofs.Clients.{asks-sit, turns-sit}
pub use Rattle.heap_core.proofs.Turned.{opening_is}
pub use Rattle.sits.proofs.Indexes.{past}
pub use Rattle.heap_core.specs.Arenas.{IsArenas, opening_records, journal_of, spaces_of}
pub use Rattle.sits.specs.Arenas.{record_at, no_record, records_turned}
pub use Rattle.recorded_arena.specs.Records.{record_after}
pub use Rattle.heap_core.specs.Chunks.{with_chunk_found}
pub use Rattle.heap_core.specs.Heaps.{HeapFacts, holder_for, published_for, region_for, started, turned_for, opening_heap, IsStepFor, IsStep, WantedAt, holding_client, op_for, region_in_seat, answered_by, moment_after, parted, replied, told_to}
pub use Rattle.recorded_arena.specs.Records.{Record}
pub use Rattle.sits.specs.Seats.{Seat, open_call, seat_of}
pub use Rattle.heap_core.specs.Seats.{asked_for, first_desk, first_seat, seat_at, answer_of, begun}
pub use Rattle.heap_core.specs.Sitting.{HasRegions, IsSeated, SitsAt, HoldersPublish, SeatSound, AsksSit, TurnsSit}
pub use Rattle.sits.specs.Sitting.{is_region}
pub use Rattle.heap_core.specs.declared.heaps.Did.{Did}
pub use Rattle.heap_core.specs.declared.heaps.Stepped.{Stepped}
pub use Rattle.hook_api.specs.Asked.{AskFacts}
pub use Rattle.hook_api.specs.Chain.{Chain, Event as ShelfEvent}
pub use Rattle.hook_api.specs.Shelf.{Shelf, PlanStep}
pub use Rattle.hook_api.specs.declared.kept.Journal.{Journal}
pub use Rattle.hook_api.specs.declared.plans.Kind.{Kind}
pub use Rattle.report_text.specs.Lines.{idle_line, ask_line, turn_line}
pub use Rattle.report_text.specs.declared.causes.Cause.{Cause}
pub use Rattle.report_text.specs.declared.causes.Cause.TheVariants.{Clock, Cut, LimitBytes, LimitLines, LimitThreads}
pub use Rattle.size_classes.specs.Classes.{align_at, aligned_for}
pub use Rattle.space_model.proofs.Lists.{ones}
pub use Rattle.space_model.proofs.Pieces.{both_true}
pub use Rattle.space_model.proofs.Ranges.{range_with_len_more}
pub use Rattle.space_model.specs.Counts.{counts_of}
pub use Rattle.space_model.specs.Region.{is_held_by}
pub use Rattle.space_model.specs.Sound.{Sound}
pub use Rattle.space_model.specs.Span.{max_series}
pub use Rattle.space_model.specs.Step.{step_of, is_live}
pub use Rattle.space_model.specs.declared.Counts.{Counts}
pub use Rattle.space_model.specs.declared.Op.{Op}
pub use Rattle.space_model.specs.declared.Op.TheVariants.{Publish}
pub use Rattle.space_model.specs.declared.Region.{Region as SpaceRegion}
pub use Rattle.space_model.specs.declared.Reply.{Reply}
pub use Rattle.space_model.specs.declared.Reply.TheVariants.{Noted, Took, Grow, Grown, Landed, Regions}
pub use Rattle.space_model.specs.declared.Space.{Space}
pub use Rattle.space_model.specs.declared.Span.{Span}
pub use Rattle.call_plan.proofs.Going.{cached_is_flat}
pub use Rattle.thread_cache.specs.Caches.{cached_in}
pub use Rattle.call_plan.specs.Clients.{DeskFacts, held_at, not_holding}
pub use Rattle.thread_cache.specs.declared.Held.{Held}
pub use Rattle.trace_text.specs.Grammar.{line_of}
pub use Rattle.trace_text.specs.Lines.{HasNoNewline}
pub use Rattle.trace_text.specs.declared.faults.LineFault.{LineFault}
pub use Rattle.trace_text.specs.declared.lines.Line.{Line, Line as SaidLine}
pub use Rattle.trace_text.specs.declared.lines.Line.TheVariants.{Step, End, Blank, Call, Start, At, Counts as CountsOf}
pub use Rattle.trace_text.specs.declared.lines.Verb.{Verb}
pub use Rattle.trace_text.specs.declared.lines.Verb.TheVariants.{CtlPlain, CtlWrite}
pub use Rattle.replay_run.specs.Answers.{IsAligned, IsAlignedFor, MemalignsAreAligned, Tale, answer_in, tale_fed, tale_in, AnswerCause, AnswersHaveCauses, IsCaused, AllEvents, NowhereCause, answer_begun, no_tales, request_in, tale_at, tale_begun, tale_turned, tale_until, tales_after, tales_asked, tales_begun}
pub use Rattle.replay_run.specs.Beginnings.{arena_with, beginning_of, controls_of, ctl_begins, request_begins, request_of, sweep_begins, take_in, target_of}
pub use Rattle.replay_run.specs.Controls.{ControlFacts, opening_controls, times_at}
pub use Rattle.replay_run.specs.Sweeps.{SweepFacts, advanced, request_next}
pub use Rattle.replay_run.specs.declared.beginnings.Beginning.{Beginning}
pub use Rattle.replay_run.specs.declared.beginnings.Beginning.TheVariants.{Asks as AsksFor, Tells as TellsAt, FindsNone}
pub use Rattle.replay_run.specs.declared.state.State.{State}
pub use Rattle.replay_run.specs.declared.sweeps.OpenCall.{OpenCall}
pub use Rattle.ctl_names.specs.declared.names.CtlError.{CtlError}
pub use Rattle.ctl_values.specs.declared.steps.CtlStep.{CtlStep}
pub use Rattle.report_text.specs.declared.controls.CtlAnswer.{CtlAnswer}
pub use Rattle.replay_run.specs.Causes.{byte_limit, cause_of, fault_cause, first_line, has_newline, line_cause, line_limit, said_cause, status_of}
pub use Rattle.replay_run.specs.Heads.{answer_line, told_line}
pub use Rattle.replay_run.specs.Input.{ReadsTo, TakesMore, TakesSome, InBounds, IsFirst, IsUnended, MetEnd}
pub use Rattle.replay_run.specs.Names.{address_at}
pub use Rattle.replay_run.specs.Plays.{WorldEvent, IsSound, Read, Began, WentOn, Turned, Told, Starved, after_event, ask_in, asks_among, world_after, HasSoundHeap, IsNext, line_in, lines_in, shelf_event, shelf_events, AllWorlds, IsPlay, plan_in, client_awaited, IsAskOf, IsWanted, beginning_in}
pub use Rattle.replay_run.specs.declared.replays.Closing.{Closing}
pub use Rattle.replay_run.specs.declared.replays.Closing.TheVariants.{Lines}
pub use Rattle.replay_run.specs.Replays.{IsBadLine, Ending, IsEnding, Open, Prints, ReplayOf, RunOf, ending_text, Bad, Whole}
pub use Rattle.replay_run.specs.Soaks.{PrintsSoak, SoakOf, IsSoakStatus, soak_text}
pub use Rattle.replay_run.specs.declared.tally.Tally.{Tally}
pub use Rattle.replay_run.specs.SoFar.{Between, Halted, StopOf, HasRead, Reached, Now, Outset, EndsHere, GoesOn, Here, is_one_step, world_at, GoesNext, IsUnread, Starting, StepsOn, beginning_at, did_line, shown_line, step_line, Reading, now_of, reading}
pub use Rattle.replay_run.specs.Steps.{entry_count, step_limit, steps_of}
pub use Rattle.replay_run.specs.Stops.{HasStopCause, IsWholeStatus, status_for, status_in}
pub use Rattle.replay_run.specs.World.{World, Awaits, no_answers, tallied, tally_closed, awaits_or_idle, begins, begun_as, call_at, calls_closed, calls_swept, came_to, goes_on, goes_on_with, has_open_call, line_read, opening_world, settled, stepped_on, Memory, Nothing, OneStep, TheEnd, TheEndBefore, TheNext, TheStart, awaits_after, awaits_begun, awaits_call, names_ended, counts_text, live_counts, ended_line, names_closed, step_text, stepped, swept, verb_at, verb_in, closing_line}
pub use Rattle.replay_run.specs.declared.input.Found.{Found}
pub use Rattle.replay_run.specs.declared.input.Found.TheVariants.{Line as FoundLine, TooLong}
pub use Rattle.replay_run.specs.declared.input.Stop.{Stop}
pub use Rattle.replay_run.specs.declared.input.Stop.TheVariants.{ReadFault, WriteFault, NoMemory}
pub use Rattle.heap_core.specs.Logs.{last_asked}
pub use Rattle.call_plan.specs.Desks.{flushes}
pub use Rattle.call_plan.specs.Runs.{batch_goes}
pub use Rattle.call_plan.specs.declared.needs.Answered.TheVariants.{NoArena as NoSuchArena}
pub use Rattle.call_plan.specs.Clients.{BatchFacts, batch_of, going}
pub use Rattle.space_model.proofs.Steps.{op_goes}
pub use Rattle.call_plan.proofs.Causes.{grow_bad}
pub use Rattle.call_plan.specs.Knows.{Heard, Knows}
pub use Rattle.call_plan.specs.Table.{answered_span, ask_at, done_at, whole_chunks}
pub use Rattle.call_plan.specs.Words.{Mine, Ask, Alloc, Answer, Placed, Why}
pub use Rattle.call_plan.specs.declared.needs.Answered.TheVariants.{BadAnswer}
pub use Rattle.sits.specs.Arenas.{reply_in}
pub use Rattle.heap_core.specs.Chunks.{met_by_alloc}
pub use Rattle.sits.specs.Clients.{mine_in}
pub use Rattle.space_model.specs.Step.{after_grow}
pub use Rattle.space_model.specs.declared.Reply.TheVariants.{Bad as BadReply}
pub use Rattle.replay_run.specs.Answers.{IsGoneIn, IsTrueIn, SpeaksAgainst}

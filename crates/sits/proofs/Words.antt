-- The words of the proofs: definitions and lemmas of std, of the crates below and of this one, each under one name.
pub use Rattle.std.specs.BTreeSet.{insert_key}
pub use Rattle.std.specs.List.{count_by, flat_map, list_all, list_any, position, position_or_len, range_with_len, slice_get, sum_by, swap_remove}
pub use Rattle.std.specs.Map.{keys_of, lookup}
pub use Rattle.std.specs.Option.{option_map_or}
pub use Rattle.std.specs.Ordering.{nat_cmp}
pub use Rattle.std.proofs.Common.{All, Bool, IsTrue, List, None, Option, Some, [], ap, arith, cond, drop, eq-eqb, false, filter, find, fold, get_or, inl, inr, length, lt-ltb, map, min, nat_eq, nat_lt, not, refl, rules, slice_set, subst, suc, sym, take, true, zero, ℕ, ℤ, ◌&&◌, ◌*◌, ◌++◌, ◌+◌, ◌-◌, ◌/◌, ◌<◌, ◌==◌, ◌^◌, ◌||◌, ◌∙◌, ◌∷◌, ◌≡◌, ◌≢◌, ◌≤◌, ◌⊎◌}
pub use Rattle.std.proofs.Math.Bool.{or-false}
pub use Rattle.std.proofs.Math.ListN.{get_or-map}
pub use Rattle.std.proofs.lemmas.List.{drop_more, get_or-set_other, get_or-set_same, length-drop, length-map, length-set, length-take, nil_from_length}
pub use Rattle.std.proofs.lemmas.List.Concat.{flat_map-cons}
pub use Rattle.std.proofs.lemmas.List.Elements.{All-append, All-cons, All-drop, All-filter, All-head, All-nil, All-set, All-tail, All-take, All-weaker, filter-append, filter_passes}
pub use Rattle.std.proofs.lemmas.List.FromFn.{length-range_with_len}
pub use Rattle.std.proofs.lemmas.List.Sums.{get_or-le-sum_by, sum_by-append, sum_by-cons, sum_by-insert, sum_by-swap_remove, sum_by-take-drop, sum_by_push}
pub use Rattle.std.proofs.lemmas.Option.{get_or_from_slice_get, slice_get-get_or, slice_get_within}
pub use Rattle.arena_core.specs.Arenas.{entry_of, opens, room_after, room_of}
pub use Rattle.call_plan.proofs.Beginning.{batches-know, begins-know, moves-know}
pub use Rattle.call_plan.proofs.Rooms.{rooms-suffice}
pub use Rattle.call_plan.proofs.Standing.{wants-stand}
pub use Rattle.call_plan.proofs.Steps.{never_starves, steps-keep}
pub use Rattle.call_plan.proofs.Words.{BatchFacts, IsPlaced, Landed, Noted, Nothing, Owned, Part, Purge, Regions, Rest, Sound, Stepped, after_set, aligned_for, both_true, caching, cases_lt, class_for, cond_both, eqb-true, fill_at, freeing, going_with, hit, is_cacheable, is_flight_at, is_held_by, is_lazy, land_at, lowest_free, ltb-true, most_regions, nat_tests, op_keeps, op_stands, pages_at, pages_bounds, region_of, slab_filled, stays, step_of}
pub use Rattle.call_plan.specs.Calls.{CallFacts}
pub use Rattle.call_plan.specs.Desks.{region_ended, taking_place, desk_told, address_behind, desk_ended, desk_fed, desk_turned, flushes, held_region, landed_behind, sharing, switched}
pub use Rattle.call_plan.specs.Knows.{IsCalm, IsResize, KnowsAsk, Heard, is_held_of, GivesBack, Idle, Knows, KnowsTurn, is_held, is_of_arena, is_served}
pub use Rattle.call_plan.specs.Laws.{Has, Keeps, KnowsNext, Moves, Ready, Stands, left, stages, with_found}
pub use Rattle.call_plan.specs.Rooms.{Suffices, flying, needed_at, needed_next, room_then}
pub use Rattle.call_plan.specs.Runs.{all_done, all_goes, are_large, begin_realloc, begin_resize, desk_led, desk_moved, desk_realloced, desk_resized, get, gives, move_stage, resize_at, resize_to, after, after_time, batch_goes, begin, begin_bind, begin_free, begin_get, begin_malloc, begin_memalign, begin_publish, begin_stage, closed, decay_setting, desk_freed, desk_got, desk_published, first_turn, first_turn_but_0, is_alignment, moved, page_align, purge_visit, settle, share, small_hit, stage, step_next, wish_for}
pub use Rattle.call_plan.specs.Table.{ask_at, got, own_span, WantAsk, WantTurn, done_at, is_marked, make_next, op_at, starved, step, told, turn_replied, visited, want}
pub use Rattle.call_plan.specs.Words.{AnswersTo, AskFacts, Asks, SetBound as Bind, DeskFacts, DirtyMs, Ends, Go, NotLive, Held, Item, MakeLive, Mine, NextBatch, Move, Next, NextFlight, Nowhere, Op, InArena, Point, Replied, Reply, SetBound, SetBox, SetLimit, Setting, Space, Span, Stage, Starved, Told, Turns, Unbind, batch_of, cached_in, cached_of, going, held_at, hitting, mine, slots_at}
pub use Rattle.call_plan.specs.declared.needs.Answered.{Answered}
pub use Rattle.call_plan.specs.declared.needs.Answered.TheVariants.{Automatic, BadAlign, NoArena, NoMemory, NotHeld, TooLarge}
pub use Rattle.call_plan.specs.declared.needs.Given.TheVariants.{Done as Finished}
pub use Rattle.call_plan.specs.declared.needs.Request.{Request}
pub use Rattle.call_plan.specs.declared.needs.Request.TheVariants.{Cache, Create, Decay, Destroy, Flush, Free, FreeForeign, GrowLimit, HookBox, Malloc, Memalign, Realloc, Purge as PurgeAll, Reset, Take, Time}
pub use Rattle.call_plan.specs.declared.points.AskPoint.{AskPoint}
pub use Rattle.call_plan.specs.declared.points.AskPoint.TheVariants.{Skipping, Cutting, Extending, Sparing, Backing, Joining}
pub use Rattle.call_plan.specs.declared.points.Resize.{Resize}
pub use Rattle.call_plan.specs.declared.points.Change.{Change}
pub use Rattle.call_plan.specs.declared.points.Change.TheVariants.{Leaves, Stops, Visits}
pub use Rattle.call_plan.specs.declared.points.TurnPoint.{TurnPoint}
pub use Rattle.call_plan.specs.declared.points.TurnPoint.TheVariants.{Advancing, Changing, Destroying, Filling, Giving, Landing, Looking, Making, Owning, Publishing, Resetting, Taking, Widening, Narrowing}
pub use Rattle.call_plan.specs.declared.points.Visit.{Visit}
pub use Rattle.call_plan.specs.declared.points.Wish.{Wish}
pub use Rattle.hook_api.specs.Kept.{IsKept}
pub use Rattle.indexmap.proofs.MapLemmas.{Found-position, Missing-position}
pub use Rattle.indexmap.specs.IndexMap.{insert_entry, swap_remove_entry}
pub use Rattle.recorded_arena.specs.Records.{Record, record_after}
pub use Rattle.sits.specs.Arenas.{AreApart, AreArenas, after_found, no_record, record_at, reply_in, room_in}
pub use Rattle.sits.specs.Clients.{CanTake, IsIdle, Waits, WaitsNext, mine_in}
pub use Rattle.sits.specs.Laws.{AsksSit, OwnSits, StartsSit, StarvesSit, TurnsSit}
pub use Rattle.sits.specs.Sitting.{Comes, HasRegions, IsAtRest, IsOf, IsSeated, Sits, SitsAt, in_hand, is_region, is_region_in, regions_of_desk}
pub use Rattle.sits.specs.Suits.{HasSlots, IsTheHand, IsTheLarge, SuitsResize, SuitsGet, Suits, SuitsAsk, SuitsChange, SuitsTurn}
pub use Rattle.space_model.proofs.Landing.{eqb_itself}
pub use Rattle.space_model.proofs.Lists.{all_sum_le, counted_any, find_has, find_passes, map_terms, nothing_sum, ones, only_one, sum_add}
pub use Rattle.space_model.proofs.Settled.{covered, homes-le-holders}
pub use Rattle.space_model.proofs.Words.{address_of, covers, flight_count, held_anew, held_count, holders, homes, inserted, is_dirty_time_over, is_given_back, is_held_at, is_held_by_other, is_in, is_published, is_published_at, landing, regions_at, regions_from, sharers, size_at, size_bounds, staying, sum_by-filter_both, take_over_at, with_client}
pub use Rattle.space_model.specs.Span.{has_page}
pub use Rattle.space_model.specs.Step.{stands}
pub use Rattle.space_model.specs.Stepped.{is_live}
pub use Rattle.space_model.specs.declared.entries.Op.TheVariants.{Widen, Trim, JoinDone, TrimDone, Advance, CommitDone, CutDone, DecommitDone, DestroyTake, ForcedDone, GrowDone, Land, LazyDone, Look, MergeDone, Offer, OfferDone, PurgeTake, PutLook, Set}
pub use Rattle.space_model.specs.declared.parts.Region.{Region, Region as SpaceRegion}
pub use Rattle.thread_cache.specs.Caches.{gone_from, is_elsewhere, put_in, is_in_arena}
pub use Rattle.call_plan.specs.Clients.{freed_hand, freed_with, gain_held, gain_held_with, gaining, reclassing, reclassing_with, resizing, added, addrs_in, before_last, discarding, empty_handed, gave, gave_with, has_slot, held_again, held_again_with, holding, kept, kept_with, lesser, not_holding, older_count}

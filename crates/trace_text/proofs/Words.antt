-- The words of the proofs.
pub use Rattle.std.proofs.Common.{◌||◌, lit≤, ◌≡◌, ℕ, zero, suc, ◌+◌, ◌*◌, ◌^◌, ◌<◌, ◌≤◌, true, List, [], ◌∷◌, length, get_or, take, Some, None, inl, inr, refl, arith, ℤ, pos, negsuc, Bool, false, ltb, leb, eqb, cond, Result, Ok, Err, ◌⊎◌, ◌∙◌, ap, sym, ◌++◌, drop, map, append_assoc, length-append, length-drop, Option, append-nil, eq-eqb}
pub use Rattle.std.specs.List.{list_all, All, slice_range}
pub use Rattle.std.proofs.lemmas.Bool.{and_parts, cases_lt, le-ltb, ltb-true, ltb-false, cond_both}
pub use Rattle.std.proofs.lemmas.Bool.Decides.{nat_tests}
pub use Rattle.std.proofs.lemmas.Grind.{pow_more, common_steps}
pub use Rattle.std.proofs.lemmas.List.{length-take-le, drop_more, length-map, map-append, take_all, take-append-drop}
unfoldable pub use Rattle.trace_text.specs.Numbers.{caused, decimal_of, hexadecimal_of}
unfoldable pub use Rattle.text_words.specs.Numbers.{decimal_of as decimal_in_word}
pub use Rattle.text_words.specs.declared.faults.NumberFault.{NumberFault}
pub use Rattle.text_words.specs.declared.faults.NumberFault.TheVariants.{NotDigits, NotNumeral}
pub use Rattle.std.specs.Prelude.{IfOk, codes, IfErr, ◌&&◌, slice_index}
pub use Rattle.std.specs.Str.{bytes_eq}
pub use Rattle.space_model.specs.declared.parts.Rest.{Rest}
pub use Rattle.space_model.specs.Purging.{is_purgeable}
pub use Rattle.space_model.specs.Settings.{is_decay_time}
pub use Rattle.trace_text.specs.declared.faults.LineFault.{LineFault}
pub use Rattle.trace_text.specs.declared.faults.LineFault.TheVariants.{Words, Range, NoMemory, Bytes, Number, Threads}
pub use Rattle.trace_text.specs.declared.lines.Verb.{Verb}
pub use Rattle.trace_text.specs.declared.lines.Verb.TheVariants.{Free, Publish, Take, Purge, Decay, Reset, Destroy, Create, Bind, Cache, Flush, CtlWrite, Malloc}
pub use Rattle.trace_text.specs.declared.lines.Line.{Line}
unfoldable pub use Rattle.trace_text.specs.Causes.{◌>>=◌, both, Gives, first_cause, GivesCause}
unfoldable pub use Rattle.trace_text.specs.Names.{name_of, control_of, value_of, is_name, is_name_byte}
unfoldable pub use Rattle.trace_text.specs.Ranges.{client_of, box_of, index_of, time_of, rounds_of}
unfoldable pub use Rattle.trace_text.specs.Verbs.{nothing_of, in_one, pointer_of, named_size_of, memalign_of, decay_time_of, switch_of, control_call_of, malloc_in_of, free_in_of, slot_verb_of, client_verb_of, arena_verb_of, unused_verb_of, verb_of}
unfoldable pub use Rattle.trace_text.specs.Grammar.{refusals_of, plan_line_of, client_line_of, other_line_of, begins_client, said_of, IsVerbWithinLimits, IsWithinLimits, words_of, is_printable, phase_line_of, line_of, is_blank}
pub use Rattle.std.proofs.lemmas.List.Folds.{drop_split, list_all_more, list_all-append}
pub use Rattle.std.proofs.lemmas.List.Splits.{length-slice_split, slice_split_at, slice_split_none}
pub use Rattle.std.specs.Option.{ok_or}
pub use Rattle.std.proofs.Math.Bool.{and-true}
pub use Rattle.std.specs.Cmp.Lexicographic.{pointwise}

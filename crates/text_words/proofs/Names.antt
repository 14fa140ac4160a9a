-- The words of the proofs.
pub use Rattle.std.proofs.Common.{◌≡◌, ℕ, zero, suc, ◌+◌, ◌-◌, ◌*◌, ◌^◌, ◌<◌, ◌≤◌, Bool, true, false, ltb, leb, eqb, cond, List, [], ◌∷◌, ◌++◌, length, get_or, take, drop, Option, Some, None, Result, Ok, Err, inl, inr, refl, sym, ap, subst, ◌∙◌, arith}
pub use Rattle.std.specs.Prelude.{not, slice_index, ◌||◌, option_and_then}
pub use Rattle.std.specs.Char.{digit_value, is_ascii_digit}
pub use Rattle.std.specs.Fmt.{decimal}
pub use Rattle.std.specs.List.{list_all, onto_first, slice_split}
pub use Rattle.std.specs.Option.{ok_or}
pub use Rattle.std.specs.Result.{result_ok}
pub use Rattle.std.specs.Str.Parse.{AllDigits, digits_value}
pub use Rattle.std.proofs.Math.Nat.{mul-le-mul_right, pow-le-pow_right}
pub use Rattle.std.proofs.lemmas.Bool.{and_parts, cases_lt, le-ltb, ltb-true, eqb-true}
pub use Rattle.std.proofs.lemmas.Bool.Decides.{nat_tests}
pub use Rattle.std.proofs.lemmas.Fmt.{decimal-digits_value, digits_decimal, digits_value-decimal, decimal_nonempty, first_decimal, decimal_digit}
pub use Rattle.std.proofs.lemmas.Grind.{pow_more}
pub use Rattle.std.proofs.lemmas.Int.Digits.{digits_value-lt, digits_value_more}
pub use Rattle.std.proofs.lemmas.List.{length-take-le, length-drop, drop_more, take-append-drop, take_all}
pub use Rattle.std.proofs.lemmas.List.Folds.{list_all_more}
pub use Rattle.std.proofs.lemmas.List.Splits.{length-slice_split, slice_split-cons_no, slice_split-cons_yes}
pub use Rattle.std.proofs.lemmas.Str.Parse.{IsNumeralModel, numerals_by_value, digits_value-take-le}
unfoldable pub use Rattle.text_words.specs.Numbers.{is_digit_in, value_in, decimal_of, is_decimal, has_leading_zero, number_in, numeral_of, numeral_below, if_below}
unfoldable pub use Rattle.text_words.specs.Words.{is_in_word, words_of}
pub use Rattle.text_words.specs.declared.faults.NumberFault.{NumberFault}
pub use Rattle.text_words.specs.declared.faults.NumberFault.TheVariants.{NotDigits, NotNumeral}

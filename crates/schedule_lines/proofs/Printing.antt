-- What formats write.
use Rattle.std.proofs.Common.{◌≡◌, ℕ, ◌<◌, ◌^◌, ◌-◌, false, List, [], ◌∷◌, ◌++◌, Some, Result, Ok, Err, IfOk, option_map, codes, refl, sym, ap, ◌∙◌}
use Rattle.std.specs.Fmt.{decimal, digits, digits_output, styled_digits_output, padded_integral, format_spec}
use Rattle.std.proofs.lemmas.Fmt.{hex_byte}
use Rattle.std.proofs.lemmas.List.{append-nil}
use Rattle.pool_model.specs.Causes.{number_of_cause, name_of_cause}
use Rattle.pool_model.specs.declared.refusal.Refusal.{Refusal}
use Rattle.pool_model.specs.declared.refusal.Refusal.TheVariants.{OutOfOrder}
use Rattle.schedule_lines.specs.Hexadecimal.{byte_text}
use Rattle.schedule_lines.specs.Replies.{argument_text, refusal_text}

-- `{:02x}` writes a byte in two digits
pub styled_byte : (d : _) (s : _) (n : ℕ) → digits_output d ≡ Some (digits 16 false n) → s ≡ format_spec 32 0 4 2 (2 ^ 64 - 1) → n < 256 → styled_digits_output d s ≡ Some (byte_text n)
styled_byte d s n written laid small =
    ap (styled_digits_output d) laid
    ∙ ap (option_map (padded_integral (format_spec 32 0 4 2 (2 ^ 64 - 1)) false [])) written
    ∙ ap (λ (text : List ℕ). Some text) (hex_byte false n small)

pub no_argument : (refusal : Refusal) → ((x : ℕ) → refusal ≡ OutOfOrder x → ⊥) → argument_text refusal ≡ []
no_argument (OutOfOrder x) other = absurd (other x refl)
no_argument _ other = refl

pub if_printed : {A E : Type 0} (bytes : A → List ℕ) (r : Result A E) (text other : List ℕ) → IfOk r (λ s. bytes s ≡ text) → text ≡ other → IfOk r (λ s. bytes s ≡ other)
if_printed bytes (Ok s) text other h e = h ∙ e
if_printed bytes (Err x) text other h e = tt

pub refused : (refusal : Refusal) (number : ℕ) (name text : List ℕ) → number ≡ number_of_cause refusal → name ≡ name_of_cause refusal → text ≡ argument_text refusal → codes "refused " ++ (decimal number ++ (32 ∷ (name ++ text))) ≡ refusal_text refusal
refused refusal number name text same_number same_name same_text = rw (same_number, same_name, same_text) refl

pub refused_plainly : (refusal : Refusal) (number : ℕ) (name : List ℕ) → number ≡ number_of_cause refusal → name ≡ name_of_cause refusal → ((x : ℕ) → refusal ≡ OutOfOrder x → ⊥) → codes "refused " ++ (decimal number ++ (32 ∷ name)) ≡ refusal_text refusal
refused_plainly refusal number name same_number same_name other =
    ap (λ (text : List ℕ). codes "refused " ++ (decimal number ++ (32 ∷ text))) (sym (append-nil name)) ∙ refused refusal number name [] same_number same_name (sym (no_argument refusal other))

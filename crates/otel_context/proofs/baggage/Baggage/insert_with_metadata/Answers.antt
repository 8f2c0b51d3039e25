use Rattle.std.proofs.Common.{◌≡◌, None, true, false, rules, sym, ap, ◌∙◌}
use Rattle.std.specs.Str.{is_utf8}
use Rattle.std.proofs.lemmas.Bool.{cond-true, cond-false}
use Rattle.std.proofs.lemmas.Str.{is_utf8-from_IsUtf8}
use Rattle.otel_context.specs.Baggage.{member_at, get_with_metadata, put, accepts, insert, replaced}
use Rattle.otel_context.specs.BaggageMember.{member_of}
use Rattle.otel_context.specs.BaggageView.{entry_members}
use Rattle.otel_context.proofs.shared.BaggagePuts.{get_is, member_missing, after_some, inserted, refused}
use Rattle.otel_context.proofs.baggage.Baggage.insert_with_metadata.Goals as goal

pub returns-in_default : goal.returns-in_default
returns-in_default c =
    let m = member_of c.args.key c.args.value c.args.metadata in
    let ms = entry_members c.self.inside.inner in
    let w = c.weight_after.ensures in
    let e = simp (c.as_str-name.ensures, c.as_str-text.ensures, c.as_str-properties.ensures.text) at w in
    let s = c.args.self.now in
    let no : accepts s m ≡ false = sym (ap (λ l. accepts l m) c.self.view_is) ∙ refused ms m (sym e ∙ c.in_default.is) in
    record {
      ok = sym (cond-false (accepts s m) (put s m) s no);
      returned = sym (cond-false (accepts s m) (get_with_metadata s m.key) None no);
      err = tt;
      err_accepted = tt;
      err_new = tt;
    }

pub invariant_of-self-2 : goal.invariant_of-self-2
invariant_of-self-2 c =
    let w = c.weight_after.ensures in
    let e = simp (c.as_str-name.ensures, c.as_str-text.ensures, c.as_str-properties.ensures.text) at w in
    let text = sym (ap is_utf8 c.as_str-text.ensures) ∙ is_utf8-from_IsUtf8 _ c.as_str-text.utf8 in
    let out = inserted c.self.inside.inner c.insert.new.self (c.args.key, (c.args.value, c.args.metadata)) c.in-Some.total c.self.invariant.0 text c.as_str-properties.ensures.trimmed c.insert.ensures.distinct c.in_ok-old.ensures.entries (sym e ∙ c.in-Some.is) in
    (out.baggage, out.sum)

pub returns-in_err-old : goal.returns-in_err-old
returns-in_err-old c =
    let new = sym (ap (λ l. member_at l c.args.key) c.self.view_is) ∙ member_missing c.self.inside.inner c.args.key c.in_err-old.ensures.absent in
    let m = member_of c.args.key c.args.value c.args.metadata in
    let w = c.weight_after.ensures in
    let e = simp (c.as_str-name.ensures, c.as_str-text.ensures, c.as_str-properties.ensures.text) at w in
    let was = after_some (entry_members c.self.inside.inner) m c.in-Some.total (sym e ∙ c.in-Some.is) in
    let yes : accepts c.args.self.now m ≡ true = sym (ap (λ l. accepts l m) c.self.view_is) ∙ was.0 in
    record { ok = search rules; returned = search rules; err = search rules; err_accepted = search (rules, yes); err_new = search (rules, new) }

pub returns : goal.returns
returns c =
    let w = c.weight_after.ensures in
    let e = simp (c.as_str-name.ensures, c.as_str-text.ensures, c.as_str-properties.ensures.text) at w in
    let text = sym (ap is_utf8 c.as_str-text.ensures) ∙ is_utf8-from_IsUtf8 _ c.as_str-text.utf8 in
    let out = inserted c.self.inside.inner c.insert.new.self (c.args.key, (c.args.value, c.args.metadata)) c.in-Some.total c.self.invariant.0 text c.as_str-properties.ensures.trimmed c.insert.ensures.distinct c.in_ok-old.ensures.entries (sym e ∙ c.in-Some.is) in
    let ms = entry_members c.self.inside.inner in
    let m = member_of c.args.key c.args.value c.args.metadata in
    record {
      ok = out.list ∙ ap (λ l. insert l m) c.self.view_is;
      returned =
          c.in_ok-old.ensures.old ∙ get_is c.self.inside.inner c.args.key
          ∙ sym (cond-true (accepts ms m) (get_with_metadata ms c.args.key) None out.accepted)
          ∙ ap (λ l. replaced l m) c.self.view_is;
      err = tt;
      err_accepted = tt;
      err_new = tt;
    }

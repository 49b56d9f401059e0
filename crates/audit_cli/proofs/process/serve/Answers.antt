use Rattle.std.proofs.Common.{inl, inr, refl, subst, sym, ◌∙◌}
use Rattle.program_ends.specs.Stop.{line_by}
use Rattle.program_ends.proofs.Words.{told_words}
use Rattle.audit_cli.specs.Commands.{IsNoCommand, IsSpelled}
use Rattle.audit_cli.proofs.process.serve.Goals as goal

pub returns-in-Ok-clause-usage : goal.returns-in-Ok-clause-usage
returns-in-Ok-clause-usage g c = λ texts told none.
    let words_are = c.deref.ensures.value ∙ told_words 2 _ texts _ told c.in-Ok.ensures in
    inl (c.exit_code.ensures ∙ c.run_audit.ensures.usage.1 (subst IsNoCommand (sym words_are) none))

pub returns-in-Ok-clause-ran : goal.returns-in-Ok-clause-ran
returns-in-Ok-clause-ran g c = λ texts told command spelled.
    let words_are = c.deref.ensures.value ∙ told_words 2 _ texts _ told c.in-Ok.ensures in
    inr (rw c.exit_code.ensures (c.run_audit.ensures.ran command (subst (IsSpelled command) (sym words_are) spelled)))

pub returns-in-Err-clause-ran : goal.returns-in-Err-clause-ran
unfolding line_by
returns-in-Err-clause-ran g c = λ texts told command spelled. inl (record {
  status_is = c.end_without_memory.ensures.status;
  volume = refl;
  output = refl;
  line = c.end_without_memory.ensures.line;
})

pub returns-in-Err-clause-usage : goal.returns-in-Err-clause-usage
unfolding line_by
returns-in-Err-clause-usage g c = λ texts told none. inr (record {
  status_is = c.end_without_memory.ensures.status;
  volume = refl;
  output = refl;
  line = c.end_without_memory.ensures.line;
})

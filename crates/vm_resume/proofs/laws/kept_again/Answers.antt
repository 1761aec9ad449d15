use Rattle.vm_resume.proofs.Keeping.{kept_again}
use Rattle.vm_resume.proofs.laws.kept_again.Goals as goal

pub returns : goal.returns
returns c = kept_again c.args.code.now c.requires.valid c.texts_are_bytes.ensures c.inputs_fit.ensures c.run_is_savable.ensures
    c.savable_goes_on.ensures c.shown_can_be_saved.ensures

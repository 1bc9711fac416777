-- `programs::listed` meets its contract. Assumes nothing.
use Rattle.programs.specs.ProgramLaws.{stated, turned_back}
use Rattle.std.proofs.Common.{refl}
use Rattle.programs.proofs.listed.Goals as goal

pub returns : goal.returns
returns g c = record {
  turned = turned_back c.sent-all.result c.requires c.list_held-d.auto.held c.list_held-d.ensures
      (stated c.args.s c.list_held-d.result c.sent-all.result c.plus.ensures c.plus-2.ensures refl);
  wrote = c.sent-all.ensures.given;
  whole = c.sent-all.ensures.whole;
  failing = c.sent-all.ensures.failing;
}

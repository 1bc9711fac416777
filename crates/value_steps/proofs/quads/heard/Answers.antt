-- `value_steps::quads::heard` meets its contract. Assumes nothing.
use Rattle.value_steps.proofs.FourShares.{heard_two, heard_three, heard_four, heard_is}
use Rattle.value_steps.proofs.quads.heard.Goals as goal

pub overflow_add-result : goal.overflow_add-result
overflow_add-result g c =
    heard_two c.requires.four_says c.args.v _ c.requires.i_bound c.sign_of-s1.ensures c.sign_of-s2.ensures c.sign_of-s3.ensures c.voiced-t0.ensures c.voiced-t1.ensures c.voiced-t2.ensures c.voiced-t3.ensures

pub overflow_add-result-2 : goal.overflow_add-result-2
overflow_add-result-2 g c =
    heard_three c.requires.four_says c.args.v _ c.requires.i_bound c.sign_of-s1.ensures c.sign_of-s2.ensures c.sign_of-s3.ensures c.voiced-t0.ensures c.voiced-t1.ensures c.voiced-t2.ensures c.voiced-t3.ensures

pub overflow_add-result-3 : goal.overflow_add-result-3
overflow_add-result-3 g c =
    heard_four c.requires.four_says c.args.v _ c.requires.i_bound c.sign_of-s1.ensures c.sign_of-s2.ensures c.sign_of-s3.ensures c.voiced-t0.ensures c.voiced-t1.ensures c.voiced-t2.ensures c.voiced-t3.ensures

pub returns : goal.returns
returns g c =
    heard_is c.requires.four_says c.args.v _ c.requires.i_bound c.sign_of-s1.ensures c.sign_of-s2.ensures c.sign_of-s3.ensures c.voiced-t0.ensures c.voiced-t1.ensures c.voiced-t2.ensures c.voiced-t3.ensures

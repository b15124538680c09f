-- `put_line` meets its contract.
use Rattle.std.proofs.Common.{rules, arith, ◌≡◌, sym, ◌+◌, ◌-◌}
use lib.ListN.{length}
use Rattle.std.proofs.lemmas.Slice.{put_mid-paste}
use Rattle.sheet.proofs.Writing.{line_ended}
use Rattle.sheet.proofs.put_line.Goals as goal

pub returns : goal.returns
returns c =
    let page = c.args.page.now in
    let long : length c.args.line ≡ 72 = search rules in
    rw (put_mid-paste c.args.at (c.args.at + 72 - c.args.at) page c.copy_from_slice.new.self c.args.line 72 c.copy_from_slice.ensures.after (omega arith) (sym long))
    (line_ended page c.args.at c.args.line long (omega (arith, c.requires.0, c.requires.1)))

-- `execute::stored` meets its contract.
use Rattle.execute.specs.laws.Literals.{single_read, stored_read}
use Rattle.opc.specs.inner.Fetch.{record_at}
use Rattle.execute.proofs.stored.Goals as goal

pub stored_word-requires : goal.stored_word-requires
stored_word-requires c = single_read c.requires.2 c.kind_of-kind.ensures c.word_of.ensures

pub returns : goal.returns
returns c =
    let b = c.args.program.now in
    let k = c.args.val in
    stored_read (record_at b k).kind (record_at b k).word c.requires.2 c.kind_of-kind.ensures c.word_of.ensures c.stored_word.ensures

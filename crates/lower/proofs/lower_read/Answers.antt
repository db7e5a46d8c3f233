use native.Mathlib.Omega.{arith}
use Rattle.lent.specs.laws.Each.{bytes_of}
use Rattle.ast.specs.laws.PlainFile.{accepted, accepted_tree}
use Rattle.lower.specs.laws.LowerLaws.{contents_fit, lengths_few, texts_fit, tree_spelt}
use Rattle.lower.proofs.lower_read.Goals as goal

pub bounds-file-2 : goal.bounds-file-2
bounds-file-2 c = omega (arith, (accepted c.args.file.now c.requires.file_value).long)

pub overflow_cast-first : goal.overflow_cast-first
overflow_cast-first c = omega (arith, c.type_inv.file 2)

pub overflow_add-first : goal.overflow_add-first
overflow_add-first c = omega (arith, c.type_inv.file 2)

pub get_u16-requires : goal.get_u16-requires
get_u16-requires c = omega (arith, (accepted c.args.file.now c.requires.file_value).long)

pub overflow_add-size : goal.overflow_add-size
overflow_add-size c = omega (arith, c.type_inv.file 2)

pub slice_bounds-text_bytes-end : goal.slice_bounds-text_bytes-end
slice_bounds-text_bytes-end c = omega (arith, contents_fit c.args.file.now c.requires.file_value c.get_u16.result c.get_u16.ensures.0)

pub text_bytes-total-requires : goal.text_bytes-total-requires
text_bytes-total-requires c =
    lengths_few c.args.file.now c.requires.file_value c.get_u16.result c.get_u16.ensures.0

pub slice_bounds-compile-end : goal.slice_bounds-compile-end
slice_bounds-compile-end c =
    omega (arith, contents_fit c.args.file.now c.requires.file_value c.get_u16.result c.get_u16.ensures.0)

pub overflow_add-size-2 : goal.overflow_add-size-2
overflow_add-size-2 c =
    omega (arith, texts_fit c.args.file.now c.requires.file_value c.get_u16.result c.get_u16.ensures.0 c.text_bytes-total.result c.text_bytes-total.ensures.0)

pub slice_bounds-compile-count-2 : goal.slice_bounds-compile-count-2
slice_bounds-compile-count-2 c =
    omega (arith, texts_fit c.args.file.now c.requires.file_value c.get_u16.result c.get_u16.ensures.0 c.text_bytes-total.result c.text_bytes-total.ensures.0)

pub slice_bounds-compile-start-2 : goal.slice_bounds-compile-start-2
slice_bounds-compile-start-2 c =
    omega (arith, texts_fit c.args.file.now c.requires.file_value c.get_u16.result c.get_u16.ensures.0 c.text_bytes-total.result c.text_bytes-total.ensures.0)

pub compile-requires : goal.compile-requires
compile-requires c =
    let f = c.args.file.now in
    let t = accepted_tree f c.requires.file_value in record {
      spelt = (
        t.0,
        tree_spelt f c.requires.file_value c.get_u16.result c.get_u16.ensures.0 c.text_bytes-total.result c.text_bytes-total.ensures.0 t.0
            (bytes_of f (λ i. omega (arith, c.type_inv.file i))) t.1,
      );
      by_index = c.requires.by_index;
    }

pub returns : goal.returns
returns c t rest e z =
    let f = c.args.file.now in
    c.compile.ensures t rest
    (tree_spelt f c.requires.file_value c.get_u16.result c.get_u16.ensures.0 c.text_bytes-total.result c.text_bytes-total.ensures.0 t
    (bytes_of f (λ i. omega (arith, c.type_inv.file i))) e)
    z

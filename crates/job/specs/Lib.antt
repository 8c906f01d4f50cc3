-- The definitions that the contracts cite, in reading order.
pub mod Numbers
pub mod Front
pub mod Reading
pub mod Asked
pub mod Printed
pub mod Explained
pub mod Texts
pub mod JobA
pub mod Refusals
